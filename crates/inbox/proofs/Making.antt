-- The rule holds of a new inbox, and stays so as it makes its passes.
use Rattle.std.proofs.Common.{◌≡◌, ◌≢◌, ℕ, zero, suc, ◌+◌, ◌<◌, ◌≤◌, ◌==◌, Bool, if◌then◌else◌, List, [], ◌∷◌, ◌++◌, length, set, sym, refl, ap, ◌∙◌, subst, ⊎_elim, eq-eqb, ne_eqb, arith}
use Rattle.std.specs.List.{All, sum_by}
use Rattle.std.proofs.lemmas.List.Elements.{All-nil, All-weaker}
use Rattle.std.proofs.lemmas.List.Sums.{sum_by_push}
use mathlib.Core.Option.{some, some-injective, some-ne-none}
use mathlib.Core.Logic.{dite}
use native.Mathlib.Decide.{ℕ_discrete}
use lib.ListN.{get_elem?}
use Rattle.crossbeam_queue.specs.Fifo.{Forks}
use Rattle.crossbeam_queue.proofs.Lists.{at_last}
use Rattle.ccb.specs.Completion.{Outcome}
use Rattle.inbox.specs.declared.account.Entry.{Entry}
use Rattle.inbox.specs.declared.account.Shape.{Shape}
use Rattle.inbox.specs.declared.account.Account.{Account}
use Rattle.inbox.specs.declared.account.View.{View}
use Rattle.inbox.specs.declared.account.Role.{Role}
use Rattle.inbox.specs.declared.account.Role.TheVariants.{Opening, Keeper, Holder, Teller, Spent}
use Rattle.inbox.specs.InboxLists.{InboxLists, AreLists, Agrees, BeginWith, completions}
use Rattle.inbox.specs.Seats.{Whole, Kept, Fits, FitsAs, IsBack, IsReturned, lists_of, no_shape, new_account, opening, spent, keeping, holding, weight, weight_as}
use Rattle.inbox.proofs.Entries.{by_pass-new}
use Rattle.inbox.proofs.Seating.{last_or_before, single, each_set, weight-set, accounted_else, accounted_longer, back_set, back_longer}

abbrev empty_whole : Shape → Whole
empty_whole shape = record { shape = shape; made = 0; place = λ n. n; put = []; taken = []; rest = [] }

no_lists : (shape : Shape) → AreLists shape (lists_of (empty_whole shape) [])
no_lists shape = record { in_order = refl; room = omega arith; putters = All-nil (λ (e : Entry). e.pass < shape.puts); takers = All-nil (λ (e : Entry). (shape.puts ≤ e.pass) × (e.pass < shape.puts + shape.takes)) }

-- nothing was put, and these seats are all
nothing_put : (shape : Shape) (views : List View) → sum_by weight views ≡ 0 → ((seat : ℕ) (v : View) → get_elem? views seat ≡ some v → Fits views (empty_whole shape) (lists_of (empty_whole shape) []) seat v) → Kept [] views
nothing_put shape views none each = record {
  whole = empty_whole shape;
  are_lists = no_lists shape;
  few = omega arith;
  put_by = All-nil (λ (e : Entry). e.pass < 0);
  taken_by = All-nil (λ (e : Entry). e.pass < 0);
  counted = none;
  accounted = λ n less. absurd (omega arith);
  each = each;
}

begins_each : (seat : ℕ) (v : View) → get_elem? (opening ∷ []) seat ≡ some v → Fits (opening ∷ []) (empty_whole no_shape) (lists_of (empty_whole no_shape) []) seat v
begins_each zero v at = subst (Fits (opening ∷ []) (empty_whole no_shape) (lists_of (empty_whole no_shape) []) 0) (some-injective opening v at) (refl, refl, refl, refl, refl)
begins_each (suc seat) v at = absurd (some-ne-none v (sym at))

pub begins : Kept [] (opening ∷ [])
begins = nothing_put no_shape (opening ∷ []) refl begins_each

abbrev opened : Shape → List View
opened shape = keeping shape 0 ∷ spent ∷ []

opened_each : (shape : Shape) (seat : ℕ) (v : View) → get_elem? (opened shape) seat ≡ some v → Fits (opened shape) (empty_whole shape) (lists_of (empty_whole shape) []) seat v
opened_each shape zero v at = subst (Fits (opened shape) (empty_whole shape) (lists_of (empty_whole shape) []) 0) (some-injective (keeping shape 0) v at) (refl, refl, refl, λ _. refl)
opened_each shape (suc zero) v at = subst (Fits (opened shape) (empty_whole shape) (lists_of (empty_whole shape) []) 1) (some-injective spent v at) tt
opened_each shape (suc (suc seat)) v at = absurd (some-ne-none v (sym at))

pub opens : (shape : Shape) (seat : ℕ) (v : View) → v.role ≡ Opening → Forks Kept seat v (keeping shape 0) spent
opens shape seat v role items views h at =
    let mine : FitsAs views h.whole (lists_of h.whole items) seat v Opening = subst (FitsAs views h.whole (lists_of h.whole items) seat v) role (h.each seat v at) in
    let alone : views ≡ v ∷ [] = single views v mine.1 (ap (λ j. get_elem? views j) (sym mine.0) ∙ at) in
    let k = keeping shape 0 in
    let two : set views seat k ++ spent ∷ [] ≡ opened shape = λ i. set (alone i) (mine.0 i) k ++ spent ∷ [] in
    let empty : [] ≡ items = ap completions (sym mine.2) ∙ h.are_lists.in_order ∙ (λ i. completions (mine.3 i) ++ (mine.4 i ++ items)) in
    subst (λ (y : List Outcome × List View). Kept y.0 y.1) (λ i. (empty i, sym two i)) (nothing_put shape (opened shape) refl (opened_each shape))

-- one more pass has this seat
abbrev with_one_more : Whole → ℕ → Whole
with_one_more whole seat = record whole { made = whole.made + 1; place = λ n. if n == whole.made then seat else whole.place n }

place_here : (whole : Whole) (seat : ℕ) → (with_one_more whole seat).place whole.made ≡ seat
place_here whole seat = subst (λ (b : Bool). (if b then seat else whole.place whole.made) ≡ seat) (sym (eq-eqb whole.made whole.made refl)) refl

place_else : (whole : Whole) (seat n : ℕ) → n < whole.made → (with_one_more whole seat).place n ≡ whole.place n
place_else whole seat n less = subst (λ (b : Bool). (if b then seat else whole.place n) ≡ whole.place n) (sym (ne_eqb n whole.made (λ same. omega arith))) refl

-- what the others know stays so as one more pass is made
others_make : (r : Role) (views views' : List View) (whole : Whole) (lists : InboxLists) (new seat : ℕ) (u : View) → seat ≢ 0
    → ((b : Account) → IsReturned views whole lists b → IsReturned views' (with_one_more whole new) lists b)
    → FitsAs views whole lists seat u r → FitsAs views' (with_one_more whole new) lists seat u r
others_make Opening views views' whole lists new seat u apart moves fits = absurd (apart fits.0)
others_make Keeper views views' whole lists new seat u apart moves fits = absurd (apart fits.0)
others_make Holder views views' whole lists new seat u apart moves fits = (fits.0 ∙ sym (place_else whole new u.account.number fits.1), omega (arith, fits.1), fits.2, fits.3, fits.4, All-weaker (IsReturned views whole lists) (IsReturned views' (with_one_more whole new) lists) moves u.back fits.5)
others_make Teller views views' whole lists new seat u apart moves fits = fits
others_make Spent views views' whole lists new seat u apart moves fits = tt

pub makes : (seat : ℕ) (v : View) → v.role ≡ Keeper → v.made < v.account.shape.puts + v.account.shape.takes → Forks Kept seat v (keeping v.account.shape (v.made + 1)) (holding (new_account v.account.shape v.made) [] [])
makes seat v role room items views h at =
    let mine : FitsAs views h.whole (lists_of h.whole items) seat v Keeper = subst (FitsAs views h.whole (lists_of h.whole items) seat v) role (h.each seat v at) in
    let lists = lists_of h.whole items in
    let k : View = keeping v.account.shape (v.made + 1) in
    let new : View = holding (new_account v.account.shape v.made) [] [] in
    let old : List View = set views seat k in
    let views' : List View = old ++ new ∷ [] in
    let made : ℕ = h.whole.made in
    let whole' = with_one_more h.whole (length old) in
    let same_made : v.made ≡ made = mine.1 in
    let same_shape : v.account.shape ≡ h.whole.shape = mine.2 in
    let room' : made + 1 ≤ h.whole.shape.puts + h.whole.shape.takes = subst (λ (y : Shape × ℕ). y.1 + 1 ≤ y.0.puts + y.0.takes) (λ i. (same_shape i, same_made i)) (omega arith) in
    let empty : h.whole.rest ≡ [] = mine.3 (omega arith) in
    let keeper : v.role ≢ Holder = λ e. let clash : Keeper ≡ Holder = sym role ∙ e in (cc) in
    let present : v.role ≢ Spent = λ e. let clash : Keeper ≡ Spent = sym role ∙ e in (cc) in
    let moves : (b : Account) → IsReturned views h.whole lists b → IsReturned views' whole' lists b = λ b was.
    (omega (arith, was.0), was.1, subst (IsBack views') (sym (place_else h.whole (length old) b.number was.0)) (back_longer old (new ∷ []) (h.whole.place b.number) (back_set views (h.whole.place b.number) seat v k at present was.2).1)) in
    let none : weight v ≡ 0 = ap (λ (r : Role). weight_as r (length v.back)) role in
    let F : ℕ → View → Type 0 = λ j u. Fits views' whole' lists j u in
    let agrees : Agrees lists new.account = record {
      own_put = by_pass-new v.made h.whole.put (subst (λ (n : ℕ). All (λ (e : Entry). e.pass < n) h.whole.put) (sym same_made) h.put_by);
      own_taken = by_pass-new v.made h.whole.taken (subst (λ (n : ℕ). All (λ (e : Entry). e.pass < n) h.whole.taken) (sym same_made) h.taken_by);
      seen_put = (h.whole.put, refl);
      seen_taken = (h.whole.taken, refl);
      told = All-nil (BeginWith lists);
    } in
    let below_made : v.made < made + 1 = subst (λ (n : ℕ). n < made + 1) (sym same_made) (omega arith) in
    let mine' : F (length old) new = (sym (ap whole'.place same_made ∙ place_here h.whole (length old)), below_made, same_shape, sym empty, agrees, All-nil (IsReturned views' whole' lists)) in
    record {
      whole = whole';
      are_lists = h.are_lists;
      few = room';
      put_by = All-weaker (λ (e : Entry). e.pass < made) (λ (e : Entry). e.pass < made + 1) (λ e (less : e.pass < made). omega arith) h.whole.put h.put_by;
      taken_by = All-weaker (λ (e : Entry). e.pass < made) (λ (e : Entry). e.pass < made + 1) (λ e (less : e.pass < made). omega arith) h.whole.taken h.taken_by;
      counted = omega (arith, sum_by_push weight old new, weight-set views seat v k at, h.counted);
      accounted = λ n less. dite (ℕ_discrete n made)
          (λ (last : n ≡ made). (length old, new, at_last old new (length old) refl, refl, (0, omega arith, same_made ∙ sym last)))
          (λ (before : n ≢ made). accounted_longer old (new ∷ []) n (accounted_else views n seat v k at keeper (h.accounted n (omega arith))));
      each = λ j u there. ⊎_elim
          (λ before. each_set F views seat k (mine.0, ap (λ n. n + 1) same_made, same_shape, λ _. empty)
          (λ i w apart was. others_make w.role views views' h.whole lists (length old) i w (λ first. apart (first ∙ sym mine.0)) moves (h.each i w was)) j u before)
          (λ last. subst (λ (y : ℕ × View). F y.0 y.1) {x = (length old, new)} {y = (j, u)} (λ i. (sym last.0 i, last.1 i)) mine')
          (last_or_before old new u j there);
    }

-- a pass more may be made
pub room_to_make : (v : View) (shape : Shape) (n : ℕ) → v ≡ keeping shape n → n < shape.puts + shape.takes → v.made < v.account.shape.puts + v.account.shape.takes
room_to_make v shape n is less = subst (λ (u : View). u.made < u.account.shape.puts + u.account.shape.takes) (sym is) less
