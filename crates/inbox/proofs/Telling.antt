-- A pass gives a receipt, and another learns it: both keep the rule.
use Rattle.std.proofs.Common.{◌≡◌, ◌≢◌, ℕ, ◌<◌, List, [], ◌∷◌, ◌++◌, length, set, sym, refl, ap, ◌∙◌, subst, ⊎_elim, arith}
use Rattle.std.specs.List.{All}
use Rattle.std.proofs.lemmas.List.Elements.{All-cons, All-append, All-weaker}
use Rattle.std.proofs.lemmas.List.Sums.{sum_by_push}
use mathlib.Core.Option.{some}
use lib.ListN.{get_elem?}
use Rattle.crossbeam_queue.specs.Fifo.{Forks, Merges}
use Rattle.crossbeam_queue.proofs.Lists.{at_set}
use Rattle.inbox.specs.declared.account.Account.{Account}
use Rattle.inbox.specs.declared.account.View.{View}
use Rattle.inbox.specs.declared.account.Role.{Role}
use Rattle.inbox.specs.declared.account.Role.TheVariants.{Opening, Keeper, Holder, Teller, Spent}
use Rattle.inbox.specs.InboxLists.{InboxLists, BeginWith, Agrees, known_by, learned}
use Rattle.inbox.specs.Seats.{Whole, Kept, Fits, FitsAs, IsReturned, lists_of, spent, holding, telling, weight, weight_as}
use Rattle.inbox.proofs.Seating.{below, last_or_before, each_set, weight-set, accounted_set, accounted_else, accounted_longer, back_set, back_spent, back_longer, unspent}
use Rattle.inbox.proofs.Steps.{held}
use Rattle.inbox.proofs.Ending.{others_return}

-- what another seat knows stays so as there is a seat more
others_tell : (r : Role) (views views' : List View) (whole : Whole) (lists : InboxLists) (mine seat : ℕ) (u : View) → mine < length views → seat ≢ mine
    → ((b : Account) → IsReturned views whole lists b → IsReturned views' whole lists b)
    → FitsAs views whole lists seat u r → FitsAs views' whole lists seat u r
others_tell Opening views views' whole lists mine seat u less apart moves fits = absurd (omega (arith, fits.0, fits.1, less, apart))
others_tell Keeper views views' whole lists mine seat u less apart moves fits = fits
others_tell Holder views views' whole lists mine seat u less apart moves fits = (fits.0, fits.1, fits.2, fits.3, fits.4, All-weaker (IsReturned views whole lists) (IsReturned views' whole lists) moves u.back fits.5)
others_tell Teller views views' whole lists mine seat u less apart moves fits = fits
others_tell Spent views views' whole lists mine seat u less apart moves fits = tt

-- a pass that took in no other, and that took out nothing
module _ (seat : ℕ) (v : View) (plain : v ≡ holding v.account [] []) where
  pub tells : Forks Kept seat v v (telling (known_by v.account))
  tells items views h at =
      let role : v.role ≡ Holder = ap (λ (u : View). u.role) plain in
      let mine = held items views seat v h at role in
      let lists = lists_of h.whole items in
      let new : View = telling (known_by v.account) in
      let old : List View = set views seat v in
      let views' : List View = old ++ new ∷ [] in
      let less : seat < length views = below views seat v at in
      let moves : (b : Account) → IsReturned views h.whole lists b → IsReturned views' h.whole lists b = λ b was.
      (was.0, was.1, back_longer old (new ∷ []) (h.whole.place b.number) (back_set views (h.whole.place b.number) seat v v at (unspent v role) was.2).1) in
      let F : ℕ → View → Type 0 = λ j u. Fits views' h.whole lists j u in
      let same : F seat v = subst (FitsAs views' h.whole lists seat v) (sym role) (mine.0, mine.1, mine.2, mine.3, mine.4, All-weaker (IsReturned views h.whole lists) (IsReturned views' h.whole lists) moves v.back mine.5) in
      let told : F (length old) new = All-cons (BeginWith lists) (record { put = v.account.seen_put; taken = v.account.seen_taken }) v.account.told (mine.4.seen_put, mine.4.seen_taken) mine.4.told in
      record {
        whole = h.whole;
        are_lists = h.are_lists;
        few = h.few;
        put_by = h.put_by;
        taken_by = h.taken_by;
        counted = omega (arith, sum_by_push weight old new, weight-set views seat v v at, h.counted);
        accounted = λ n made. accounted_longer old (new ∷ []) n (accounted_set views n seat v v at role (λ c. c) (h.accounted n made));
        each = λ j u there. ⊎_elim
            (λ before. each_set F views seat v same (λ i w apart was. others_tell w.role views views' h.whole lists seat i w less apart moves (h.each i w was)) j u before)
            (λ last. subst (λ (y : ℕ × View). F y.0 y.1) {x = (length old, new)} {y = (j, u)} (λ i. (sym last.0 i, last.1 i)) told)
            (last_or_before old new u j there);
      }

  pub hears : (other : ℕ) (u : View) → u ≡ telling u.account.told → Merges Kept seat v other u (holding (learned v.account u.account.told) v.back v.rest) spent
  hears other u teller items views h at apart there =
      let role : v.role ≡ Holder = ap (λ (w : View). w.role) plain in
      let both : View = holding (learned v.account u.account.told) v.back v.rest in
      let was : get_elem? views other ≡ some u = ⊎_elim (λ x. absurd (apart x.0)) (λ x. x.1) (at_set views seat other both u there) in
      let u_role : u.role ≡ Teller = ap (λ (w : View). w.role) teller in
      let no_holder : u.role ≢ Holder = λ e. let clash : Teller ≡ Holder = sym u_role ∙ e in (cc) in
      let mine = held items views seat v h at role in
      let lists = lists_of h.whole items in
      let theirs : All (BeginWith lists) u.account.told = subst (FitsAs views h.whole lists other u) u_role (h.each other u was) in
      let first : List View = set views seat both in
      let after : List View = set first other spent in
      let less : seat < length views = below views seat v at in
      let other_less : other < length views = below views other u was in
      let more : 1 < length views = omega (arith, apart) in
      let moves : (b : Account) → IsReturned views h.whole lists b → IsReturned after h.whole lists b = λ b x. (x.0, x.1, back_spent first (h.whole.place b.number) other (back_set views (h.whole.place b.number) seat v both at (unspent v role) x.2).1) in
      let none : weight u ≡ 0 = ap weight teller in
      let one : weight v ≡ weight both = ap (λ (r : Role). weight_as r (length v.back)) role in
      let agrees : Agrees lists both.account = record {
        own_put = mine.4.own_put;
        own_taken = mine.4.own_taken;
        seen_put = mine.4.seen_put;
        seen_taken = mine.4.seen_taken;
        told = All-append (BeginWith lists) u.account.told v.account.told theirs mine.4.told;
      } in
      let F : ℕ → View → Type 0 = λ j w. Fits after h.whole lists j w in
      record {
        whole = h.whole;
        are_lists = h.are_lists;
        few = h.few;
        put_by = h.put_by;
        taken_by = h.taken_by;
        counted = omega (arith, weight-set first other u spent there, weight-set views seat v both at, h.counted);
        accounted = λ n made. accounted_else first n other u spent there no_holder (accounted_set views n seat v both at refl (λ c. c) (h.accounted n made));
        each = each_set F first other spent tt (λ i x not_other e'. each_set F views seat both
            (mine.0, mine.1, mine.2, mine.3, agrees, All-weaker (IsReturned views h.whole lists) (IsReturned after h.whole lists) moves v.back mine.5)
            (λ i' x' not_seat e''. others_return x'.role views after h.whole lists i' x' more moves (h.each i' x' e'')) i x e');
      }
