-- What a text stands for, and what is said of it.
use Rattle.std.proofs.Common.{◌≡◌, ◌≢◌, ℕ, Bool, true, false, Result, Ok, Err, List, [], ◌∷◌, ◌++◌, inl, inr, subst, sym}
use Rattle.base.specs.declared.or_memory.OrMemory.{OrMemory}
use Rattle.std.specs.Prelude.{Contains}
use Rattle.trace.specs.ShortLines.{IsShort}
use Rattle.trace.specs.declared.fault.TraceFault.{TraceFault}
use Rattle.whole_trace.specs.WholeText.{SaysWhole}
use Rattle.whole_trace.specs.declared.reader.WholeTrace.{WholeTrace}
use Rattle.trace_front.specs.Front.{EndsSo, EndsWhole, IsLastFeed, SaysFront, SaysSo, no_feed, no_line, no_sums, open_at, torn, whole}
use Rattle.trace_front.specs.declared.front.TraceFront.{TraceFront}

pub ends_there : (ends : Bool) (lines rest : List ℕ) → rest ≡ [] → EndsSo ends lines → EndsWhole ends lines rest
ends_there true lines rest none so = (none, so)
ends_there false lines rest none so = inr so

pub goes_on : (lines rest : List ℕ) → rest ≢ [] → EndsWhole false lines rest
goes_on lines rest some = inl some

pub says_without_feed : (text : List ℕ) (result : Result TraceFront (OrMemory TraceFault)) → (Contains text 10 → ⊥) → SaysSo text true result → SaysFront text result
says_without_feed text result none says = (text, true, no_feed none, says)

pub says_whole : (text lines rest : List ℕ) (result : Result TraceFront (OrMemory TraceFault)) → IsLastFeed text lines rest → EndsWhole true lines rest → SaysSo text true result → SaysFront text result
says_whole text lines rest result at ends says = (text, true, whole lines rest at ends, says)

pub says_open : (text lines rest : List ℕ) (result : Result TraceFront (OrMemory TraceFault)) → IsLastFeed text lines rest → EndsWhole false lines rest → IsShort rest → SaysSo (lines ++ 10 ∷ no_sums) false result → SaysFront text result
says_open text lines rest result at ends short says = (lines ++ 10 ∷ no_sums, false, open_at lines rest at ends short, says)

pub says_torn : (text lines rest : List ℕ) (result : Result TraceFront (OrMemory TraceFault)) → IsLastFeed text lines rest → (IsShort rest → ⊥) → SaysSo (lines ++ 10 ∷ no_line) false result → SaysFront text result
says_torn text lines rest result at long says = (lines ++ 10 ∷ no_line, false, torn lines rest at long, says)

pub read_so : (full : List ℕ) (ended : Bool) (it : WholeTrace) (front : TraceFront) → front.whole ≡ it → front.is_ended ≡ ended → SaysWhole full (Ok it) → SaysSo full ended (Ok front)
read_so full ended it front is so says = (so, subst (λ (w : WholeTrace). SaysWhole full (Ok w)) (sym is) says)

pub refused_so : (full : List ℕ) (ended : Bool) (fault : OrMemory TraceFault) → SaysWhole full (Err fault) → SaysSo full ended (Err fault)
refused_so full ended fault says = says
