-- What lines ask for.
use Rattle.std.proofs.Common.{◌≡◌, ◌≤◌, ◌<◌, ◌∙◌, ◌==◌, ◌++◌, ℕ, Bool, true, false, if◌then◌else◌, arith, cond, Option, Some, None, IfOk, IfSome, Result, Ok, Err, List, ap, bytes_eq, codes, drop, get_or, refl, sym}
use Rattle.std.specs.Fmt.{option_append}
use Rattle.trace_lines.specs.Calls.{call_of, values_of, word_of, word_text}
use Rattle.trace_lines.specs.Lines.{line_text}
use Rattle.trace_lines.specs.declared.kind.Slots.{Slots}
use Rattle.trace_lines.specs.declared.value.Value.{Value}
use Rattle.trace_lines.specs.declared.word.Word.{Word}
use Rattle.trace_lines.specs.declared.word.Word.TheVariants as words
use Rattle.trace_lines.specs.Reading.{ReadsLine}
use Rattle.trace_lines.specs.Texts.{number_text}
use Rattle.trace_lines.specs.Written.{Reads}
use Rattle.trace_lines.proofs.Back.{calls_are_lines}
use Rattle.trace_lines.proofs.Tests.{joined, parts_of, same_bytes, same_text}
use Rattle.ccb.specs.declared.place.Place.TheVariants.{Controller, Device}
use Rattle.world_calls.specs.declared.call.Call.{Call as TheCall}
use Rattle.world_calls.specs.declared.call.Call.TheVariants as calls
use Rattle.world_calls.specs.declared.trace.Version.{Version}
use Rattle.scenario.specs.Commands.{may_say}
use Rattle.host_live.specs.Requests.{call_text, drive_text, own_text, request_text, said_in, spelled_call, step_text, succession_text, succession_words, told_text, named_text}
use Rattle.host_live.specs.declared.request.Succession.{Succession}
use Rattle.host_live.specs.declared.request.Request.{Request}
use Rattle.host_live.specs.declared.request.Request.TheVariants.{Call, Step, Drive, Drain, Totals, Ccbs, Succeed, Quit, Help}

-- ---- a line is of one kind

-- which by its letters: `quit`, `help`, `rotate` and `reload`, `totals`, `ccbs`, `step`, `drive`, `drain`, and all else
kind_at : List ℕ → ℕ
kind_at text = cond (get_or text 0 0 == 113) 7 (cond (get_or text 0 0 == 104) 8 (cond (get_or text 0 0 == 114) (cond (get_or text 2 0 == 116) 6 (cond (get_or text 2 0 == 108) 6 0)) (cond (get_or text 0 0 == 116) 4 (cond (get_or text 1 0 == 99) 5 (cond (get_or text 1 0 == 116) 1 (cond (get_or text 2 0 == 105) 2 (cond (get_or text 3 0 == 105) 3 0)))))))

kind_of : Request → ℕ
kind_of (Call call) = 0
kind_of (Step run) = 1
kind_of (Drive run) = 2
kind_of Drain = 3
kind_of Totals = 4
kind_of Ccbs = 5
kind_of (Succeed how) = 6
kind_of Quit = 7
kind_of Help = 8

begins : (word : List ℕ) (fields : Option (List ℕ)) (line : List ℕ) → option_append (Some word) fields ≡ Some line → (rest : List ℕ) × (fields ≡ Some rest) × (line ≡ word ++ rest)
begins word fields line e =
    let parts = parts_of (Some word) fields line e in
    (parts.1, parts.3, parts.4 ∙ ap (λ (t : List ℕ). t ++ parts.1) (sym (same_text word parts.0 parts.2)))

call_kind : (call : TheCall) (line : List ℕ) → spelled_call call ≡ Some line → kind_at line ≡ 0
unfolding kind_at
call_kind (calls.Submit queue priority retries class) line e = ap kind_at (begins (word_text words.Submit) _ line e).2
call_kind (calls.Dispatch queue) line e = ap kind_at (begins (word_text words.Dispatch) _ line e).2
call_kind (calls.Complete outcome) line e = ap kind_at (begins (word_text words.Complete) _ line e).2
call_kind (calls.Withdraw ccb) line e = ap kind_at (begins (word_text words.Withdraw) _ line e).2
call_kind (calls.GuestFreeze (Device queue) guest) line e = ap kind_at (begins (word_text words.FreezeQueue) _ line e).2
call_kind (calls.GuestFreeze (Controller controller) guest) line e = ap kind_at (begins (word_text words.FreezeController) _ line e).2
call_kind (calls.GuestRelease freeze) line e = ap kind_at (begins (word_text words.ReleaseFreeze) _ line e).2
call_kind (calls.Clock reading) line e = ap kind_at (begins (word_text words.Clock) _ line e).2
call_kind (calls.Park run) line e = ap kind_at (begins (word_text words.Park) _ line e).2
call_kind (calls.Resume run) line e = ap kind_at (begins (word_text words.Resume) _ line e).2

words_kind : (is_reloaded is_fresh : Bool) (line : List ℕ) → succession_words is_reloaded is_fresh ≡ Some line → kind_at line ≡ 6
unfolding kind_at
words_kind false false line e = ap kind_at (sym (same_text (codes "rotate") line e))
words_kind false true line e = ap kind_at (sym (same_text (codes "rotate fresh") line e))
words_kind true false line e = ap kind_at (sym (same_text (codes "reload") line e))
words_kind true true line e = ap kind_at (sym (same_text (codes "reload fresh") line e))

succession_kind : (how : Succession) (line : List ℕ) → succession_text how ≡ Some line → kind_at line ≡ 6
succession_kind how line e = words_kind how.is_reloaded how.is_fresh line e

-- as it is spelled in any version
abbrev any_text : Bool → Request → Option (List ℕ)
any_text told (Call call) = spelled_call call
any_text told request = named_text told request

kind_is : (told : Bool) (request : Request) (line : List ℕ) → any_text told request ≡ Some line → kind_at line ≡ kind_of request
unfolding kind_at kind_of
kind_is told (Call call) line e = call_kind call line e
kind_is told (Step run) line e = ap kind_at (begins (codes "step ") _ line e).2
kind_is told (Drive run) line e = ap kind_at (begins (codes "drive ") _ line e).2
kind_is told Drain line e = ap kind_at (sym (same_text (codes "drain") line e))
kind_is told Totals line e = ap kind_at (sym (same_text (codes "totals") line e))
kind_is told Ccbs line e = ap kind_at (sym (same_text (codes "ccbs") line e))
kind_is told (Succeed how) line e = succession_kind how line e
kind_is true Quit line e = ap kind_at (sym (same_text (codes "quit") line e))
kind_is false Quit line e = absurd cc
kind_is true Help line e = ap kind_at (sym (same_text (codes "help") line e))
kind_is false Help line e = absurd cc

same_kind : (told : Bool) (a b : Request) (line : List ℕ) → any_text told a ≡ Some line → any_text told b ≡ Some line → kind_of a ≡ kind_of b
same_kind told a b line e f = sym (kind_is told a line e) ∙ kind_is told b line f

-- ---- a request that is no call

drain_only : (line : List ℕ) → line ≡ codes "drain" → (request : Request) → own_text request ≡ Some line → ◌≡◌ {A = Option Request} (Some Drain) (Some request)
unfolding kind_of
drain_only line is (Call other) e = absurd cc
drain_only line is (Step other) e = let kind : true ≡ false = ap (λ (n : ℕ). n == 3) (same_kind true Drain (Step other) line (ap Some (sym is)) e) in absurd cc
drain_only line is (Drive other) e = let kind : true ≡ false = ap (λ (n : ℕ). n == 3) (same_kind true Drain (Drive other) line (ap Some (sym is)) e) in absurd cc
drain_only line is Drain e = refl
drain_only line is Totals e = let kind : true ≡ false = ap (λ (n : ℕ). n == 3) (same_kind true Drain Totals line (ap Some (sym is)) e) in absurd cc
drain_only line is Ccbs e = let kind : true ≡ false = ap (λ (n : ℕ). n == 3) (same_kind true Drain Ccbs line (ap Some (sym is)) e) in absurd cc
drain_only line is (Succeed how) e = let kind : true ≡ false = ap (λ (n : ℕ). n == 3) (same_kind true Drain (Succeed how) line (ap Some (sym is)) e) in absurd cc
drain_only line is Quit e = absurd cc
drain_only line is Help e = absurd cc

pub drain_reads : (line : List ℕ) → bytes_eq line (codes "drain") ≡ true → Reads own_text line (Some Drain)
drain_reads line test =
    let is = same_bytes line (codes "drain") test in
    record { said = ap Some (sym is); back = λ request e. drain_only line is request e }

totals_only : (line : List ℕ) → line ≡ codes "totals" → (request : Request) → own_text request ≡ Some line → ◌≡◌ {A = Option Request} (Some Totals) (Some request)
unfolding kind_of
totals_only line is (Call other) e = absurd cc
totals_only line is (Step other) e = let kind : true ≡ false = ap (λ (n : ℕ). n == 4) (same_kind true Totals (Step other) line (ap Some (sym is)) e) in absurd cc
totals_only line is (Drive other) e = let kind : true ≡ false = ap (λ (n : ℕ). n == 4) (same_kind true Totals (Drive other) line (ap Some (sym is)) e) in absurd cc
totals_only line is Drain e = let kind : true ≡ false = ap (λ (n : ℕ). n == 4) (same_kind true Totals Drain line (ap Some (sym is)) e) in absurd cc
totals_only line is Totals e = refl
totals_only line is Ccbs e = let kind : true ≡ false = ap (λ (n : ℕ). n == 4) (same_kind true Totals Ccbs line (ap Some (sym is)) e) in absurd cc
totals_only line is (Succeed how) e = let kind : true ≡ false = ap (λ (n : ℕ). n == 4) (same_kind true Totals (Succeed how) line (ap Some (sym is)) e) in absurd cc
totals_only line is Quit e = absurd cc
totals_only line is Help e = absurd cc

pub totals_reads : (line : List ℕ) → bytes_eq line (codes "totals") ≡ true → Reads own_text line (Some Totals)
totals_reads line test =
    let is = same_bytes line (codes "totals") test in
    record { said = ap Some (sym is); back = λ request e. totals_only line is request e }

ccbs_only : (line : List ℕ) → line ≡ codes "ccbs" → (request : Request) → own_text request ≡ Some line → ◌≡◌ {A = Option Request} (Some Ccbs) (Some request)
unfolding kind_of
ccbs_only line is (Call other) e = absurd cc
ccbs_only line is (Step other) e = let kind : true ≡ false = ap (λ (n : ℕ). n == 5) (same_kind true Ccbs (Step other) line (ap Some (sym is)) e) in absurd cc
ccbs_only line is (Drive other) e = let kind : true ≡ false = ap (λ (n : ℕ). n == 5) (same_kind true Ccbs (Drive other) line (ap Some (sym is)) e) in absurd cc
ccbs_only line is Drain e = let kind : true ≡ false = ap (λ (n : ℕ). n == 5) (same_kind true Ccbs Drain line (ap Some (sym is)) e) in absurd cc
ccbs_only line is Totals e = let kind : true ≡ false = ap (λ (n : ℕ). n == 5) (same_kind true Ccbs Totals line (ap Some (sym is)) e) in absurd cc
ccbs_only line is Ccbs e = refl
ccbs_only line is (Succeed how) e = let kind : true ≡ false = ap (λ (n : ℕ). n == 5) (same_kind true Ccbs (Succeed how) line (ap Some (sym is)) e) in absurd cc
ccbs_only line is Quit e = absurd cc
ccbs_only line is Help e = absurd cc

pub ccbs_reads : (line : List ℕ) → bytes_eq line (codes "ccbs") ≡ true → Reads own_text line (Some Ccbs)
ccbs_reads line test =
    let is = same_bytes line (codes "ccbs") test in
    record { said = ap Some (sym is); back = λ request e. ccbs_only line is request e }

step_only : (line : List ℕ) (run : ℕ) → Reads step_text line (Some run) → (request : Request) → own_text request ≡ Some line → ◌≡◌ {A = Option Request} (Some (Step run)) (Some request)
unfolding kind_of
step_only line run reads (Call other) e = absurd cc
step_only line run reads (Step other) e = let same = reads.back other e in cc
step_only line run reads (Drive other) e = let kind : true ≡ false = ap (λ (n : ℕ). n == 1) (same_kind true (Step run) (Drive other) line reads.said e) in absurd cc
step_only line run reads Drain e = let kind : true ≡ false = ap (λ (n : ℕ). n == 1) (same_kind true (Step run) Drain line reads.said e) in absurd cc
step_only line run reads Totals e = let kind : true ≡ false = ap (λ (n : ℕ). n == 1) (same_kind true (Step run) Totals line reads.said e) in absurd cc
step_only line run reads Ccbs e = let kind : true ≡ false = ap (λ (n : ℕ). n == 1) (same_kind true (Step run) Ccbs line reads.said e) in absurd cc
step_only line run reads (Succeed how) e = let kind : true ≡ false = ap (λ (n : ℕ). n == 1) (same_kind true (Step run) (Succeed how) line reads.said e) in absurd cc
step_only line run reads Quit e = absurd cc
step_only line run reads Help e = absurd cc

pub step_reads : (line : List ℕ) (run : ℕ) → Reads step_text line (Some run) → Reads own_text line (Some (Step run))
step_reads line run reads = record { said = reads.said; back = λ request e. step_only line run reads request e }

drive_only : (line : List ℕ) (run : ℕ) → Reads drive_text line (Some run) → (request : Request) → own_text request ≡ Some line → ◌≡◌ {A = Option Request} (Some (Drive run)) (Some request)
unfolding kind_of
drive_only line run reads (Call other) e = absurd cc
drive_only line run reads (Step other) e = let kind : true ≡ false = ap (λ (n : ℕ). n == 2) (same_kind true (Drive run) (Step other) line reads.said e) in absurd cc
drive_only line run reads (Drive other) e = let same = reads.back other e in cc
drive_only line run reads Drain e = let kind : true ≡ false = ap (λ (n : ℕ). n == 2) (same_kind true (Drive run) Drain line reads.said e) in absurd cc
drive_only line run reads Totals e = let kind : true ≡ false = ap (λ (n : ℕ). n == 2) (same_kind true (Drive run) Totals line reads.said e) in absurd cc
drive_only line run reads Ccbs e = let kind : true ≡ false = ap (λ (n : ℕ). n == 2) (same_kind true (Drive run) Ccbs line reads.said e) in absurd cc
drive_only line run reads (Succeed how) e = let kind : true ≡ false = ap (λ (n : ℕ). n == 2) (same_kind true (Drive run) (Succeed how) line reads.said e) in absurd cc
drive_only line run reads Quit e = absurd cc
drive_only line run reads Help e = absurd cc

pub drive_reads : (line : List ℕ) (run : ℕ) → Reads drive_text line (Some run) → Reads own_text line (Some (Drive run))
drive_reads line run reads = record { said = reads.said; back = λ request e. drive_only line run reads request e }

succeed_only : (line : List ℕ) (how : Succession) → Reads succession_text line (Some how) → (request : Request) → own_text request ≡ Some line → ◌≡◌ {A = Option Request} (Some (Succeed how)) (Some request)
unfolding kind_of
succeed_only line how reads (Call other) e = absurd cc
succeed_only line how reads (Step other) e = let kind : true ≡ false = ap (λ (n : ℕ). n == 6) (same_kind true (Succeed how) (Step other) line reads.said e) in absurd cc
succeed_only line how reads (Drive other) e = let kind : true ≡ false = ap (λ (n : ℕ). n == 6) (same_kind true (Succeed how) (Drive other) line reads.said e) in absurd cc
succeed_only line how reads Drain e = let kind : true ≡ false = ap (λ (n : ℕ). n == 6) (same_kind true (Succeed how) Drain line reads.said e) in absurd cc
succeed_only line how reads Totals e = let kind : true ≡ false = ap (λ (n : ℕ). n == 6) (same_kind true (Succeed how) Totals line reads.said e) in absurd cc
succeed_only line how reads Ccbs e = let kind : true ≡ false = ap (λ (n : ℕ). n == 6) (same_kind true (Succeed how) Ccbs line reads.said e) in absurd cc
succeed_only line how reads (Succeed other) e = let same = reads.back other e in cc
succeed_only line how reads Quit e = absurd cc
succeed_only line how reads Help e = absurd cc

pub succeed_reads : (line : List ℕ) (how : Succession) → Reads succession_text line (Some how) → Reads own_text line (Some (Succeed how))
succeed_reads line how reads = record { said = reads.said; back = λ request e. succeed_only line how reads request e }

not_this : (word line : List ℕ) → bytes_eq line word ≡ false → bytes_eq word word ≡ true → Some word ≡ Some line → ⊥
not_this word line other same e =
    let bad : true ≡ false = sym same ∙ (ap (λ (l : List ℕ). bytes_eq l word) (same_text word line e) ∙ other) in
    absurd cc

-- ---- how another engine is to follow

-- by its second letter and its eighth
how_at : List ℕ → Succession
how_at text = record { is_reloaded = get_or text 1 0 == 101; is_fresh = get_or text 7 0 == 102 }

words_are : (is_reloaded is_fresh : Bool) (line : List ℕ) → succession_words is_reloaded is_fresh ≡ Some line → how_at line ≡ record { is_reloaded = is_reloaded; is_fresh = is_fresh }
unfolding how_at
words_are false false line e = ap how_at (sym (same_text (codes "rotate") line e))
words_are false true line e = ap how_at (sym (same_text (codes "rotate fresh") line e))
words_are true false line e = ap how_at (sym (same_text (codes "reload") line e))
words_are true true line e = ap how_at (sym (same_text (codes "reload fresh") line e))

how_is : (how : Succession) (line : List ℕ) → succession_text how ≡ Some line → how_at line ≡ how
how_is how line e = words_are how.is_reloaded how.is_fresh line e

pub succession_reads : (line : List ℕ) (how : Succession) → succession_text how ≡ Some line → Reads succession_text line (Some how)
succession_reads line how said = record { said = said; back = λ other e. ap Some (sym (how_is how line said) ∙ how_is other line e) }

no_words : (line : List ℕ) → bytes_eq line (codes "rotate") ≡ false → bytes_eq line (codes "rotate fresh") ≡ false → bytes_eq line (codes "reload") ≡ false → bytes_eq line (codes "reload fresh") ≡ false → (is_reloaded is_fresh : Bool) → succession_words is_reloaded is_fresh ≡ Some line → ⊥
no_words line a b c d false false e = not_this (codes "rotate") line a refl e
no_words line a b c d false true e = not_this (codes "rotate fresh") line b refl e
no_words line a b c d true false e = not_this (codes "reload") line c refl e
no_words line a b c d true true e = not_this (codes "reload fresh") line d refl e

pub no_succession_reads : (line : List ℕ) → bytes_eq line (codes "rotate") ≡ false → bytes_eq line (codes "rotate fresh") ≡ false → bytes_eq line (codes "reload") ≡ false → bytes_eq line (codes "reload fresh") ≡ false → Reads succession_text line None
no_succession_reads line a b c d = record { said = tt; back = λ how e. absurd (no_words line a b c d how.is_reloaded how.is_fresh e) }

none_own : (line : List ℕ) → bytes_eq line (codes "drain") ≡ false → bytes_eq line (codes "totals") ≡ false → bytes_eq line (codes "ccbs") ≡ false → Reads succession_text line None → Reads step_text line None → Reads drive_text line None
    → (request : Request) → own_text request ≡ Some line → ◌≡◌ {A = Option Request} None (Some request)
none_own line no_drain no_totals no_ccbs succession step drive (Call call) e = absurd cc
none_own line no_drain no_totals no_ccbs succession step drive (Step run) e = let same = step.back run e in absurd cc
none_own line no_drain no_totals no_ccbs succession step drive (Drive run) e = let same = drive.back run e in absurd cc
none_own line no_drain no_totals no_ccbs succession step drive Drain e = absurd (not_this (codes "drain") line no_drain refl e)
none_own line no_drain no_totals no_ccbs succession step drive Totals e = absurd (not_this (codes "totals") line no_totals refl e)
none_own line no_drain no_totals no_ccbs succession step drive Ccbs e = absurd (not_this (codes "ccbs") line no_ccbs refl e)
none_own line no_drain no_totals no_ccbs succession step drive (Succeed how) e = let same = succession.back how e in absurd cc
none_own line no_drain no_totals no_ccbs succession step drive Quit e = absurd cc
none_own line no_drain no_totals no_ccbs succession step drive Help e = absurd cc

pub none_reads : (line : List ℕ) → bytes_eq line (codes "drain") ≡ false → bytes_eq line (codes "totals") ≡ false → bytes_eq line (codes "ccbs") ≡ false → Reads succession_text line None → Reads step_text line None → Reads drive_text line None → Reads own_text line None
none_reads line no_drain no_totals no_ccbs succession step drive = record { said = tt; back = λ request e. none_own line no_drain no_totals no_ccbs succession step drive request e }

-- ---- what is asked for only where lines are answered

told_off : (line : List ℕ) (request : Request) → told_text false request ≡ Some line → ⊥
told_off line (Call call) e = cc
told_off line (Step run) e = cc
told_off line (Drive run) e = cc
told_off line Drain e = cc
told_off line Totals e = cc
told_off line Ccbs e = cc
told_off line (Succeed how) e = cc
told_off line Quit e = cc
told_off line Help e = cc

-- ---- either

own_low : (line : List ℕ) (request : Request) → own_text request ≡ Some line → kind_at line < 7
unfolding kind_of
own_low line (Call call) e = absurd cc
own_low line (Step run) e = let kind : kind_at line ≡ 1 = kind_is true (Step run) line e in omega (arith, kind)
own_low line (Drive run) e = let kind : kind_at line ≡ 2 = kind_is true (Drive run) line e in omega (arith, kind)
own_low line Drain e = let kind : kind_at line ≡ 3 = kind_is true Drain line e in omega (arith, kind)
own_low line Totals e = let kind : kind_at line ≡ 4 = kind_is true Totals line e in omega (arith, kind)
own_low line Ccbs e = let kind : kind_at line ≡ 5 = kind_is true Ccbs line e in omega (arith, kind)
own_low line (Succeed how) e = let kind : kind_at line ≡ 6 = kind_is true (Succeed how) line e in omega (arith, kind)
own_low line Quit e = absurd cc
own_low line Help e = absurd cc

told_high : (told : Bool) (line : List ℕ) (request : Request) → told_text told request ≡ Some line → 7 ≤ kind_at line
unfolding kind_of
told_high false line request e = absurd (told_off line request e)
told_high true line (Call call) e = absurd cc
told_high true line (Step run) e = absurd cc
told_high true line (Drive run) e = absurd cc
told_high true line Drain e = absurd cc
told_high true line Totals e = absurd cc
told_high true line Ccbs e = absurd cc
told_high true line (Succeed how) e = absurd cc
told_high true line Quit e = let kind : kind_at line ≡ 7 = kind_is true Quit line e in omega (arith, kind)
told_high true line Help e = let kind : kind_at line ≡ 8 = kind_is true Help line e in omega (arith, kind)

not_both : (told : Bool) (line : List ℕ) (one other : Request) → told_text told one ≡ Some line → own_text other ≡ Some line → ⊥
not_both told line one other e f =
    let high = told_high told line one e in
    let low = own_low line other f in
    omega (arith, high, low)

told_said : (told : Bool) (line : List ℕ) (request : Request) → told_text told request ≡ Some line → named_text told request ≡ Some line
told_said false line request e = absurd (told_off line request e)
told_said true line (Call call) e = absurd cc
told_said true line (Step run) e = absurd cc
told_said true line (Drive run) e = absurd cc
told_said true line Drain e = absurd cc
told_said true line Totals e = absurd cc
told_said true line Ccbs e = absurd cc
told_said true line (Succeed how) e = absurd cc
told_said true line Quit e = e
told_said true line Help e = e

told_back : (told : Bool) (line : List ℕ) (one : Request) → Reads (told_text told) line (Some one) → (request : Request) → named_text told request ≡ Some line → ◌≡◌ {A = Option Request} (Some one) (Some request)
told_back told line one reads (Call call) e = absurd (not_both told line one (Call call) reads.said e)
told_back told line one reads (Step run) e = absurd (not_both told line one (Step run) reads.said e)
told_back told line one reads (Drive run) e = absurd (not_both told line one (Drive run) reads.said e)
told_back told line one reads Drain e = absurd (not_both told line one Drain reads.said e)
told_back told line one reads Totals e = absurd (not_both told line one Totals reads.said e)
told_back told line one reads Ccbs e = absurd (not_both told line one Ccbs reads.said e)
told_back told line one reads (Succeed how) e = absurd (not_both told line one (Succeed how) reads.said e)
told_back told line one reads Quit e = reads.back Quit e
told_back told line one reads Help e = reads.back Help e

pub told_is : (told : Bool) (line : List ℕ) (one : Request) → Reads (told_text told) line (Some one) → Reads (named_text told) line (Some one)
told_is told line one reads = record { said = told_said told line one reads.said; back = λ request e. told_back told line one reads request e }

plain_said : (told : Bool) (line : List ℕ) (read : Option Request) → IfSome read (λ request. own_text request ≡ Some line) → IfSome read (λ request. named_text told request ≡ Some line)
plain_said told line None e = tt
plain_said told line (Some (Call call)) e = absurd cc
plain_said told line (Some (Step run)) e = e
plain_said told line (Some (Drive run)) e = e
plain_said told line (Some Drain) e = e
plain_said told line (Some Totals) e = e
plain_said told line (Some Ccbs) e = e
plain_said told line (Some (Succeed how)) e = e
plain_said told line (Some Quit) e = absurd cc
plain_said told line (Some Help) e = absurd cc

plain_back : (told : Bool) (line : List ℕ) (read : Option Request) → Reads (told_text told) line None → Reads own_text line read → (request : Request) → named_text told request ≡ Some line → read ≡ Some request
plain_back told line read none own (Call call) e = absurd cc
plain_back told line read none own (Step run) e = own.back (Step run) e
plain_back told line read none own (Drive run) e = own.back (Drive run) e
plain_back told line read none own Drain e = own.back Drain e
plain_back told line read none own Totals e = own.back Totals e
plain_back told line read none own Ccbs e = own.back Ccbs e
plain_back told line read none own (Succeed how) e = own.back (Succeed how) e
plain_back told line read none own Quit e = let same = none.back Quit e in absurd cc
plain_back told line read none own Help e = let same = none.back Help e in absurd cc

pub plain_is : (told : Bool) (line : List ℕ) (read : Option Request) → Reads (told_text told) line None → Reads own_text line read → Reads (named_text told) line read
plain_is told line read none own = record { said = plain_said told line read own.said; back = λ request e. plain_back told line read none own request e }

-- ---- a call

pub no_call : (line : List ℕ) → ReadsLine line None → Reads spelled_call line None
no_call line reads = record { said = tt; back = λ call e. let same = reads.back (word_of call) (values_of call) e in absurd cc }

word_in : Option (Word × Slots Value) → Word
word_in None = words.Submit
word_in (Some line) = line.0

held_in : Slots Value → Option (Word × Slots Value) → Slots Value
held_in held None = held
held_in held (Some line) = line.1

call_said : (line : List ℕ) (word : Word) (held : Slots Value) (made : Option TheCall) → line_text word held ≡ Some line → made ≡ call_of word held → IfSome made (λ call. spelled_call call ≡ Some line)
call_said line word held None e is = tt
call_said line word held (Some call) e is =
    let same = calls_are_lines.1 word held line call e (sym is) in
    ap (λ (w : Word). line_text w (values_of call)) same.0 ∙ (ap (line_text word) same.1 ∙ e)

call_back : (line : List ℕ) (word : Word) (held : Slots Value) (made : Option TheCall) → ReadsLine line (Some (word, held)) → made ≡ call_of word held → (call : TheCall) → spelled_call call ≡ Some line → made ≡ Some call
unfolding word_in held_in
call_back line word held made reads is call e =
    let same = reads.back (word_of call) (values_of call) e in
    let its_word : word ≡ word_of call = ap word_in same in
    let its_values : held ≡ values_of call = ap (held_in held) same in
    is ∙ (ap (λ (w : Word). call_of w held) its_word ∙ (ap (call_of (word_of call)) its_values ∙ calls_are_lines.0 call))

pub call_reads : (line : List ℕ) (word : Word) (held : Slots Value) (made : Option TheCall) → ReadsLine line (Some (word, held)) → made ≡ call_of word held → Reads spelled_call line made
call_reads line word held made reads is = record { said = call_said line word held made reads.said is; back = λ call e. call_back line word held made reads is call e }

pub calls_read : {E : Type 0} (line : List ℕ) (word : Word) (held : Slots Value) (r : Result (Option TheCall) E) → ReadsLine line (Some (word, held)) → IfOk r (λ made. made ≡ call_of word held) → IfOk r (Reads spelled_call line)
calls_read line word held (Ok made) reads is = call_reads line word held made reads is
calls_read line word held (Err fault) reads is = tt

-- one that a line of the version may say
is_said : (said : Bool) (told : Option (List ℕ)) (line : List ℕ) → (if said then told else None) ≡ Some line → (said ≡ true) × (told ≡ Some line)
is_said true told line e = (refl, e)
is_said false told line e = absurd cc

not_said : (version : Version) (line : List ℕ) (call other : TheCall) → may_say version call ≡ false → Reads spelled_call line (Some call) → call_text version other ≡ Some line → ⊥
not_said version line call other so reads e =
    let its = is_said (may_say version other) (spelled_call other) line e in
    let both : ◌≡◌ {A = Option TheCall} (Some call) (Some other) = reads.back other its.1 in
    let same : call ≡ other = cc in
    let bad : false ≡ true = sym so ∙ (ap (may_say version) same ∙ its.0) in
    cc

said_by : (version : Version) (line : List ℕ) (call : TheCall) (said : Bool) → may_say version call ≡ said → Reads spelled_call line (Some call) → Reads (call_text version) line (if said then Some call else None)
said_by version line call true so reads = record {
  said = ap (λ (b : Bool). if b then spelled_call call else None) so ∙ reads.said;
  back = λ other e. reads.back other (is_said (may_say version other) (spelled_call other) line e).1;
}
said_by version line call false so reads = record { said = tt; back = λ other e. absurd (not_said version line call other so reads e) }

pub said_reads : (version : Version) (line : List ℕ) (call : TheCall) → Reads spelled_call line (Some call) → Reads (call_text version) line (said_in version call)
said_reads version line call reads = said_by version line call (may_say version call) refl reads

pub none_said : (version : Version) (line : List ℕ) → Reads spelled_call line None → Reads (call_text version) line None
none_said version line reads = record {
  said = tt;
  back = λ other e. let same : ◌≡◌ {A = Option TheCall} None (Some other) = reads.back other (is_said (may_say version other) (spelled_call other) line e).1 in absurd cc;
}

-- ---- what a line asks for

word_said : (version : Version) (told : Bool) (line : List ℕ) (request : Request) → named_text told request ≡ Some line → request_text version told request ≡ Some line
word_said version told line (Call call) e = absurd cc
word_said version told line (Step run) e = e
word_said version told line (Drive run) e = e
word_said version told line Drain e = e
word_said version told line Totals e = e
word_said version told line Ccbs e = e
word_said version told line (Succeed how) e = e
word_said version told line Quit e = e
word_said version told line Help e = e

word_no_call : (told : Bool) (line : List ℕ) (request : Request) (call : TheCall) → named_text told request ≡ Some line → spelled_call call ≡ Some line → ⊥
unfolding kind_of
word_no_call told line (Call other) call e f = cc
word_no_call told line (Step run) call e f = let kind : false ≡ true = ap (λ (n : ℕ). n == 0) (same_kind told (Step run) (Call call) line e f) in cc
word_no_call told line (Drive run) call e f = let kind : false ≡ true = ap (λ (n : ℕ). n == 0) (same_kind told (Drive run) (Call call) line e f) in cc
word_no_call told line Drain call e f = let kind : false ≡ true = ap (λ (n : ℕ). n == 0) (same_kind told Drain (Call call) line e f) in cc
word_no_call told line Totals call e f = let kind : false ≡ true = ap (λ (n : ℕ). n == 0) (same_kind told Totals (Call call) line e f) in cc
word_no_call told line Ccbs call e f = let kind : false ≡ true = ap (λ (n : ℕ). n == 0) (same_kind told Ccbs (Call call) line e f) in cc
word_no_call told line (Succeed how) call e f = let kind : false ≡ true = ap (λ (n : ℕ). n == 0) (same_kind told (Succeed how) (Call call) line e f) in cc
word_no_call told line Quit call e f = let kind : false ≡ true = ap (λ (n : ℕ). n == 0) (same_kind told Quit (Call call) line e f) in cc
word_no_call told line Help call e f = let kind : false ≡ true = ap (λ (n : ℕ). n == 0) (same_kind told Help (Call call) line e f) in cc

word_back : (version : Version) (told : Bool) (line : List ℕ) (one : Request) → Reads (named_text told) line (Some one) → (request : Request) → request_text version told request ≡ Some line → ◌≡◌ {A = Option Request} (Some one) (Some request)
word_back version told line one reads (Call call) e = absurd (word_no_call told line one call reads.said (is_said (may_say version call) (spelled_call call) line e).1)
word_back version told line one reads (Step run) e = reads.back (Step run) e
word_back version told line one reads (Drive run) e = reads.back (Drive run) e
word_back version told line one reads Drain e = reads.back Drain e
word_back version told line one reads Totals e = reads.back Totals e
word_back version told line one reads Ccbs e = reads.back Ccbs e
word_back version told line one reads (Succeed how) e = reads.back (Succeed how) e
word_back version told line one reads Quit e = reads.back Quit e
word_back version told line one reads Help e = reads.back Help e

pub word_is : (version : Version) (told : Bool) (line : List ℕ) (one : Request) → Reads (named_text told) line (Some one) → Reads (request_text version told) line (Some one)
word_is version told line one reads = record { said = word_said version told line one reads.said; back = λ request e. word_back version told line one reads request e }

call_is_back : (version : Version) (told : Bool) (line : List ℕ) (call : TheCall) → Reads (named_text told) line None → Reads (call_text version) line (Some call) → (request : Request) → request_text version told request ≡ Some line → ◌≡◌ {A = Option Request} (Some (Call call)) (Some request)
call_is_back version told line call word reads (Call other) e = let same = reads.back other e in cc
call_is_back version told line call word reads (Step run) e = let same = word.back (Step run) e in absurd cc
call_is_back version told line call word reads (Drive run) e = let same = word.back (Drive run) e in absurd cc
call_is_back version told line call word reads Drain e = let same = word.back Drain e in absurd cc
call_is_back version told line call word reads Totals e = let same = word.back Totals e in absurd cc
call_is_back version told line call word reads Ccbs e = let same = word.back Ccbs e in absurd cc
call_is_back version told line call word reads (Succeed how) e = let same = word.back (Succeed how) e in absurd cc
call_is_back version told line call word reads Quit e = let same = word.back Quit e in absurd cc
call_is_back version told line call word reads Help e = let same = word.back Help e in absurd cc

pub call_is : (version : Version) (told : Bool) (line : List ℕ) (call : TheCall) → Reads (named_text told) line None → Reads (call_text version) line (Some call) → Reads (request_text version told) line (Some (Call call))
call_is version told line call word reads = record { said = reads.said; back = λ request e. call_is_back version told line call word reads request e }

none_is_back : (version : Version) (told : Bool) (line : List ℕ) → Reads (named_text told) line None → Reads (call_text version) line None → (request : Request) → request_text version told request ≡ Some line → ◌≡◌ {A = Option Request} None (Some request)
none_is_back version told line word reads (Call other) e = let same = reads.back other e in absurd cc
none_is_back version told line word reads (Step run) e = word.back (Step run) e
none_is_back version told line word reads (Drive run) e = word.back (Drive run) e
none_is_back version told line word reads Drain e = word.back Drain e
none_is_back version told line word reads Totals e = word.back Totals e
none_is_back version told line word reads Ccbs e = word.back Ccbs e
none_is_back version told line word reads (Succeed how) e = word.back (Succeed how) e
none_is_back version told line word reads Quit e = word.back Quit e
none_is_back version told line word reads Help e = word.back Help e

pub none_is : (version : Version) (told : Bool) (line : List ℕ) → Reads (named_text told) line None → Reads (call_text version) line None → Reads (request_text version told) line None
none_is version told line word reads = record { said = tt; back = λ request e. none_is_back version told line word reads request e }

-- ---- a number after a word

behind_said : (word line rest : List ℕ) (made : Option ℕ) → line ≡ word ++ rest → IfSome made (λ number. number_text number ≡ Some rest) → IfSome made (λ number. option_append (Some word) (number_text number) ≡ Some line)
behind_said word line rest None is said = tt
behind_said word line rest (Some number) is said = joined (Some word) (number_text number) word rest refl said ∙ ap Some (sym is)

step_back : (line rest : List ℕ) (made : Option ℕ) → line ≡ codes "step " ++ rest → Reads number_text rest made → (run : ℕ) → step_text run ≡ Some line → made ≡ Some run
step_back line rest made is reads run e =
    let its = begins (codes "step ") (number_text run) line e in
    let same : its.0 ≡ rest = ap (λ (t : List ℕ). drop 5 t) (sym its.2 ∙ is) in
    reads.back run (its.1 ∙ ap Some same)

pub step_behind : (line rest : List ℕ) (made : Option ℕ) → line ≡ codes "step " ++ rest → Reads number_text rest made → Reads step_text line made
step_behind line rest made is reads = record { said = behind_said (codes "step ") line rest made is reads.said; back = λ run e. step_back line rest made is reads run e }

pub no_step : (line : List ℕ) → ((rest : List ℕ) → ¬ (line ≡ codes "step " ++ rest)) → Reads step_text line None
no_step line none = record { said = tt; back = λ run e. let its = begins (codes "step ") (number_text run) line e in absurd (none its.0 its.2) }

drive_back : (line rest : List ℕ) (made : Option ℕ) → line ≡ codes "drive " ++ rest → Reads number_text rest made → (run : ℕ) → drive_text run ≡ Some line → made ≡ Some run
drive_back line rest made is reads run e =
    let its = begins (codes "drive ") (number_text run) line e in
    let same : its.0 ≡ rest = ap (λ (t : List ℕ). drop 6 t) (sym its.2 ∙ is) in
    reads.back run (its.1 ∙ ap Some same)

pub drive_behind : (line rest : List ℕ) (made : Option ℕ) → line ≡ codes "drive " ++ rest → Reads number_text rest made → Reads drive_text line made
drive_behind line rest made is reads = record { said = behind_said (codes "drive ") line rest made is reads.said; back = λ run e. drive_back line rest made is reads run e }

pub no_drive : (line : List ℕ) → ((rest : List ℕ) → ¬ (line ≡ codes "drive " ++ rest)) → Reads drive_text line None
no_drive line none = record { said = tt; back = λ run e. let its = begins (codes "drive ") (number_text run) line e in absurd (none its.0 its.2) }
