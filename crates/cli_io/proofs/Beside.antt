-- How a file beside another is named.
use Rattle.std.proofs.Common.{◌≡◌, ◌∙◌, ◌++◌, ◌-◌, ◌^◌, ℕ, false, Option, Some, None, List, [], Bor, IfSome, append-nil, ap, codes, arith, subst}
use Rattle.std.specs.Fmt.{char_count, digits_output, format_spec, option_append, padded, padded_integral, radix_digits, radix_prefix, shown_prefix, styled_digits_output, styled_text, take_chars}
use Rattle.std.specs.Option.{option_copied, option_map, unwrap_or}
use Rattle.cli_io.specs.Replacing.{sixteen_digits}

-- a text that is cut, and not filled up
cut : (name : List ℕ) → padded (format_spec 32 0 0 0 58) name ≡ take_chars 58 name
unfolding padded
cut name =
    let shown = take_chars 58 name in
    let none : 0 - char_count shown ≡ 0 = omega arith in
    rw none (append-nil shown)

pub name_or_nothing : (found : Option (Bor (List ℕ))) (default result : Bor (List ℕ)) (name : Option (List ℕ)) → option_copied found ≡ name → result ≡ unwrap_or found default → default.now ≡ [] → result.now ≡ unwrap_or name []
name_or_nothing None default result name copied is none = ap (λ (b : Bor (List ℕ)). b.now) is ∙ none ∙ ap (λ n. unwrap_or n []) copied
name_or_nothing (Some found) default result name copied is none = ap (λ (b : Bor (List ℕ)). b.now) is ∙ ap (λ n. unwrap_or n []) copied

-- what the pattern makes of a name and a number
pub named : (made name : List ℕ) (number : ℕ) (first second : _) (hex : _) → first ≡ format_spec 32 0 0 0 58 → second ≡ format_spec 32 0 4 16 (2 ^ 64 - 1)
    → digits_output hex ≡ Some (radix_digits 16 false number) → IfSome (option_append (Some (styled_text first name)) (option_append (Some (codes ".camr-")) (styled_digits_output hex second))) (λ bytes. made ≡ bytes)
    → made ≡ take_chars 58 name ++ (codes ".camr-" ++ sixteen_digits number)
named made name number first second hex first_is second_is hex_is says =
    let cut_so = format_spec 32 0 0 0 58 in
    let filled_so = format_spec 32 0 4 16 (2 ^ 64 - 1) in
    let F : _ → Type 0 = λ s. IfSome (option_append (Some (styled_text s name)) (option_append (Some (codes ".camr-")) (styled_digits_output hex second))) (λ bytes. made ≡ bytes) in
    let G : _ → Type 0 = λ s. IfSome (option_append (Some (styled_text cut_so name)) (option_append (Some (codes ".camr-")) (styled_digits_output hex s))) (λ bytes. made ≡ bytes) in
    let H : Option (List ℕ) → Type 0 = λ o. IfSome (option_append (Some (styled_text cut_so name)) (option_append (Some (codes ".camr-")) (option_map (padded_integral filled_so false (shown_prefix filled_so (radix_prefix hex.base))) o))) (λ bytes. made ≡ bytes) in
    let there : made ≡ padded cut_so name ++ (codes ".camr-" ++ sixteen_digits number) = subst H hex_is (subst G second_is (subst F first_is says)) in
    there ∙ ap (λ (t : List ℕ). t ++ (codes ".camr-" ++ sixteen_digits number)) (cut name)
