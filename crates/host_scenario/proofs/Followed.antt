-- The walk over a history by the steps of its host.
use Rattle.std.proofs.Common.{◌≡◌, ℕ, zero, suc, ◌+◌, ◌<◌, ◌≤◌, Bool, true, false, not, ◌&&◌, if◌then◌else◌, List, [], ◌∷◌, drop, get_or, length, refl, ap, sym, ◌∙◌, arith}
use Rattle.std.proofs.lemmas.List.{drop-drop, drop_more, drop_all}
use Rattle.world_calls.specs.declared.record.Record.{Record}
use Rattle.scenario.specs.Commands.{Step}
use Rattle.host_scenario.specs.Asked.{is_by_host}
use Rattle.host_scenario.specs.Turns.{Turn, after_first, are_in_turn, are_settled, at_host, doing, from_host, is_no_record, leading, may_do, may_end, turn_after}
use Rattle.host_scenario.specs.declared.turns.Doing.TheVariants.{Calls, Drains}

pub here : (records : List Record) (place : ℕ) (made : Record) → place < length records → made ≡ get_or records place made → drop place records ≡ made ∷ drop (place + 1) records
here records place made within is = drop_more records place made within ∙ ap (λ (x : Record). x ∷ drop (place + 1) records) (sym is)

leading_by : (many : Record → ℕ) (made : Record) (rest : List Record) (b : Bool) → is_by_host made ≡ b → leading many (made ∷ rest) ≡ (if b then 0 else many made + leading many rest)
leading_by many made rest b is = ap (λ (it : Bool). if it then 0 else many made + leading many rest) is

from_by : (made : Record) (rest : List Record) (b : Bool) → is_by_host made ≡ b → from_host (made ∷ rest) ≡ (if b then made ∷ rest else from_host rest)
from_by made rest b is = ap (λ (it : Bool). if it then made ∷ rest else from_host rest) is

-- at a record that the host made
pub leads_none : (many : Record → ℕ) (records : List Record) (place : ℕ) (made : Record) → place < length records → made ≡ get_or records place made → is_by_host made ≡ true → leading many (drop place records) ≡ 0
leads_none many records place made within is host = ap (leading many) (here records place made within is) ∙ leading_by many made (drop (place + 1) records) true host

pub from_here : (records : List Record) (place : ℕ) (made : Record) → place < length records → made ≡ get_or records place made → is_by_host made ≡ true → from_host (drop place records) ≡ drop place records
from_here records place made within is host =
    ap from_host (here records place made within is) ∙ (from_by made (drop (place + 1) records) true host ∙ sym (here records place made within is))

-- at another record
pub leads_more : (many : Record → ℕ) (records : List Record) (place : ℕ) (made : Record) → place < length records → made ≡ get_or records place made → is_by_host made ≡ false → leading many (drop place records) ≡ many made + leading many (drop (place + 1) records)
leads_more many records place made within is host = ap (leading many) (here records place made within is) ∙ leading_by many made (drop (place + 1) records) false host

pub from_next : (records : List Record) (place : ℕ) (made : Record) → place < length records → made ≡ get_or records place made → is_by_host made ≡ false → from_host (drop place records) ≡ from_host (drop (place + 1) records)
from_next records place made within is host = ap from_host (here records place made within is) ∙ from_by made (drop (place + 1) records) false host

-- after all records
pub at_end : (records : List Record) (place : ℕ) → length records ≤ place → drop place records ≡ []
at_end records place all = drop_all place records all

-- whether records are left
pub none_left : (records : List Record) (place : ℕ) → length records ≤ place → is_no_record (drop place records) ≡ true
none_left records place all = ap is_no_record (at_end records place all)

pub some_left : (records : List Record) (place : ℕ) → place < length records → is_no_record (drop place records) ≡ false
some_left (made ∷ rest) zero within = refl
some_left [] place within = absurd (omega (arith, within))
some_left (made ∷ rest) (suc place) within = some_left rest place (omega (arith, within))

-- a step more of those that are left
pub step_more : (all : Bool) (turn : Turn) (steps : List Step) (index : ℕ) (step : Step) → index < length steps → step ≡ get_or steps index step
    → are_in_turn all turn (drop index steps) ≡ (may_do (doing step.command) turn && are_in_turn all (turn_after (doing step.command) turn) (drop (index + 1) steps))
step_more all turn steps index step within is =
    ap (are_in_turn all turn) (drop_more steps index step within ∙ ap (λ (x : Step). x ∷ drop (index + 1) steps) (sym is))

pub goes_on : (all may : Bool) (turn next : Turn) (steps : List Step) (index : ℕ) (step : Step) → index < length steps → step ≡ get_or steps index step → may ≡ may_do (doing step.command) turn → may ≡ true → next ≡ turn_after (doing step.command) turn
    → are_in_turn all next (drop (index + 1) steps) ≡ are_in_turn all turn (drop index steps)
goes_on all may turn next steps index step within is may_is so next_is =
    ap (λ (it : Turn). are_in_turn all it (drop (index + 1) steps)) next_is
    ∙ (ap (λ (b : Bool). b && are_in_turn all (turn_after (doing step.command) turn) (drop (index + 1) steps)) (sym so ∙ may_is)
    ∙ sym (step_more all turn steps index step within is))

pub stops : (all may : Bool) (turn : Turn) (steps : List Step) (index : ℕ) (step : Step) → index < length steps → step ≡ get_or steps index step → may ≡ may_do (doing step.command) turn → may ≡ false → false ≡ are_in_turn all turn (drop index steps)
stops all may turn steps index step within is may_is no_more =
    ap (λ (b : Bool). b && are_in_turn all (turn_after (doing step.command) turn) (drop (index + 1) steps)) (sym no_more ∙ may_is)
    ∙ sym (step_more all turn steps index step within is)

pub ends : (all : Bool) (turn : Turn) (steps : List Step) (index : ℕ) → length steps ≤ index → are_in_turn all turn (drop index steps) ≡ may_end (if all then turn_after Drains turn else turn)
ends all turn steps index done = ap (are_in_turn all turn) (drop_all index steps done)

-- a call, and the end
pub call_stands : (turn next : Turn) (place : ℕ) (records : List Record) → next ≡ at_host turn → are_settled next ≡ true → next.rest ≡ drop place records → place < length records → true ≡ may_do Calls turn
call_stands turn next place records next_is so rest_is some =
    (λ i. sym so i && not ((sym (some_left records place some) ∙ ap is_no_record (sym rest_is)) i))
    ∙ ap (λ (it : Turn). are_settled it && not (is_no_record it.rest)) next_is

pub call_unsettled : (turn next : Turn) → next ≡ at_host turn → are_settled next ≡ false → false ≡ may_do Calls turn
call_unsettled turn next next_is so =
    ap (λ (b : Bool). b && not (is_no_record next.rest)) (sym so) ∙ ap (λ (it : Turn). are_settled it && not (is_no_record it.rest)) next_is

pub call_at_end : (turn next : Turn) (place : ℕ) (records : List Record) → next ≡ at_host turn → are_settled next ≡ true → next.rest ≡ drop place records → length records ≤ place → false ≡ may_do Calls turn
call_at_end turn next place records next_is so rest_is all =
    (λ i. sym so i && not ((sym (none_left records place all) ∙ ap is_no_record (sym rest_is)) i))
    ∙ ap (λ (it : Turn). are_settled it && not (is_no_record it.rest)) next_is

pub after_call : (turn next now : Turn) (place : ℕ) (records : List Record) → next ≡ at_host turn → next.rest ≡ drop place records → now ≡ record { put = next.put; drained = next.drained; served = next.served; started = next.started; ended = next.ended; rest = drop (place + 1) records } → now ≡ turn_after Calls turn
after_call turn next now place records next_is rest_is now_is =
    now_is
    ∙ ((λ i. record { put = next.put; drained = next.drained; served = next.served; started = next.started; ended = next.ended; rest = (sym (drop-drop 1 place records) ∙ ap (drop 1) (sym rest_is)) i })
    ∙ ap after_first next_is)

pub end_not : (turn next : Turn) (place : ℕ) (records : List Record) → next ≡ at_host turn → next.rest ≡ drop place records → place < length records → false ≡ may_end turn
end_not turn next place records next_is rest_is some =
    ap (λ (b : Bool). b && are_settled next) (sym (some_left records place some) ∙ ap is_no_record (sym rest_is))
    ∙ ap (λ (it : Turn). is_no_record it.rest && are_settled it) next_is

pub end_is : (turn next : Turn) (place : ℕ) (records : List Record) (result : Bool) → next ≡ at_host turn → next.rest ≡ drop place records → length records ≤ place → result ≡ are_settled next → result ≡ may_end turn
end_is turn next place records result next_is rest_is all is =
    is
    ∙ (ap (λ (b : Bool). b && are_settled next) (sym (none_left records place all) ∙ ap is_no_record (sym rest_is))
    ∙ ap (λ (it : Turn). is_no_record it.rest && are_settled it) next_is)
