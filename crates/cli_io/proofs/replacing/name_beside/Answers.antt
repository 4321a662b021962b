use Rattle.std.proofs.Common.{◌∙◌, ◌++◌, ap, codes, refl}
use Rattle.std.specs.Fmt.{take_chars}
use Rattle.std.specs.Path.{path_file_name, path_with_file_name}
use Rattle.cli_io.specs.Replacing.{sixteen_digits}
use Rattle.cli_io.proofs.Beside.{name_or_nothing, named}
use Rattle.cli_io.proofs.replacing.name_beside.Goals as goal

pub returns : goal.returns
returns c =
    let out = c.args.out.now in
    let name = name_or_nothing _ _ _ (path_file_name out) (c.file_name.ensures ∙ ap path_file_name c.new.ensures) c.unwrap_or-name.ensures refl in
    let made = named _ c.unwrap_or-name.result.now c.args.number _ _ c.in_radix.result c.laid_out.ensures c.laid_out-2.ensures c.in_radix.ensures c.in_ok-name.ensures.ok in
    let whole = made ∙ ap (λ n. take_chars 58 n ++ (codes ".camr-" ++ sixteen_digits c.args.number)) name in
    c.into_string.ensures
    ∙ (c.in_ok-with_file_name.ensures
    ∙ (ap (λ p. path_with_file_name p c.as_str.result.now) c.new-2.ensures ∙ ap (path_with_file_name out) (c.as_str.ensures.value ∙ whole)))
