-- At the closing: each pass that is taken in keeps the rule, and so does each completion that is taken out, and then the lists are known.
use Rattle.std.proofs.Common.{◌≡◌, ◌≢◌, ℕ, ◌+◌, ◌<◌, ◌≤◌, List, [], ◌∷◌, ◌++◌, length, set, sym, refl, ap, ◌∙◌, subst, ⊎_elim, append_assoc, length-append, length-set, arith}
use Rattle.std.specs.List.{Contains, sum_by}
use Rattle.std.proofs.lemmas.List.Elements.{All-cons, All-weaker, Contains-append_left, Contains-append_right, Contains-append_cases}
use mathlib.Core.Option.{some, some-injective}
use mathlib.Core.Logic.{dite}
use native.Mathlib.Decide.{ℕ_discrete}
use lib.ListN.{get_elem?}
use Rattle.crossbeam_queue.specs.Fifo.{Pops, Merges, Learns}
use Rattle.crossbeam_queue.proofs.Lists.{at_set, set_here, set_else}
use Rattle.ccb.specs.Completion.{Outcome}
use Rattle.inbox.specs.declared.account.Account.{Account}
use Rattle.inbox.specs.declared.account.Shape.{Shape}
use Rattle.inbox.specs.declared.account.View.{View}
use Rattle.inbox.specs.declared.account.Role.{Role}
use Rattle.inbox.specs.declared.account.Role.TheVariants.{Opening, Keeper, Holder, Teller, Spent}
use Rattle.inbox.specs.InboxLists.{InboxLists, AreLists, Agrees, Settles}
use Rattle.inbox.specs.Seats.{Whole, Kept, Fits, FitsAs, IsBack, IsReturned, IsAccounted, lists_of, spent, holding, weight, weight_as, numbers}
use Rattle.inbox.proofs.Entries.{agrees_whatever_left, told_whatever_left}
use Rattle.inbox.proofs.Seating.{below, each_set, weight-set, weight_there, only_holder, accounted_set, back_set, back_spent, unspent}
use Rattle.inbox.proofs.Steps.{held}

-- what another seat knows stays so as a pass or a receipt is taken in
pub others_return : (r : Role) (views views' : List View) (whole : Whole) (lists : InboxLists) (seat : ℕ) (u : View) → 1 < length views
    → ((b : Account) → IsReturned views whole lists b → IsReturned views' whole lists b)
    → FitsAs views whole lists seat u r → FitsAs views' whole lists seat u r
others_return Opening views views' whole lists seat u more moves fits = absurd (omega (arith, fits.1))
others_return Keeper views views' whole lists seat u more moves fits = fits
others_return Holder views views' whole lists seat u more moves fits = (fits.0, fits.1, fits.2, fits.3, fits.4, All-weaker (IsReturned views whole lists) (IsReturned views' whole lists) moves u.back fits.5)
others_return Teller views views' whole lists seat u more moves fits = fits
others_return Spent views views' whole lists seat u more moves fits = tt

spent_there : (views : List View) (place other : ℕ) → place ≡ other → other < length views → IsBack (set views other spent) place
spent_there views place other here less = (spent, ap (λ j. get_elem? (set views other spent) j) here ∙ set_here views other spent less, refl)

-- the pass of another seat was taken in by the one of this seat
accounted_spent : (views : List View) (n other seat : ℕ) (u w : View) → get_elem? views other ≡ some u → get_elem? views seat ≡ some w → w.role ≡ Holder → seat ≢ other → (Contains (numbers (u.account ∷ u.back)) n → Contains (numbers (w.account ∷ w.back)) n) → IsAccounted views n → IsAccounted (set views other spent) n
accounted_spent views n other seat u w at at_seat role apart has (j, x, there, holder, contains) = dite (ℕ_discrete j other)
    (λ (here : j ≡ other).
    let same : x ≡ u = some-injective x u (sym there ∙ ap (λ i. get_elem? views i) here ∙ at) in
    (seat, w, set_else views other seat spent apart ∙ at_seat, role, has (subst (λ (y : View). Contains (numbers (y.account ∷ y.back)) n) same contains)))
    (λ (differ : j ≢ other). (j, x, set_else views other j spent differ ∙ there, holder, contains))

-- a number more, after the first
behind_first : (a b n : ℕ) (more : List ℕ) → Contains (a ∷ more) n → Contains (a ∷ b ∷ more) n
behind_first a b n more has = ⊎_elim
    (λ first. Contains-append_left (a ∷ []) (b ∷ more) n first)
    (λ later. Contains-append_right (a ∷ b ∷ []) more n later)
    (Contains-append_cases (a ∷ []) more n has)

as_second : (a b n : ℕ) (more : List ℕ) → Contains (b ∷ []) n → Contains (a ∷ b ∷ more) n
as_second a b n more has = Contains-append_right (a ∷ []) (b ∷ more) n (Contains-append_left (b ∷ []) more n has)

pub returns : (seat : ℕ) (v : View) (other : ℕ) (u : View) → v.role ≡ Holder → u ≡ holding u.account [] [] → Merges Kept seat v other u (holding v.account (u.account ∷ v.back) v.rest) spent
returns seat v other u role plain items views h at apart there =
    let both : View = holding v.account (u.account ∷ v.back) v.rest in
    let was : get_elem? views other ≡ some u = ⊎_elim (λ x. absurd (apart x.0)) (λ x. x.1) (at_set views seat other both u there) in
    let u_role : u.role ≡ Holder = ap (λ (w : View). w.role) plain in
    let mine = held items views seat v h at role in
    let theirs = held items views other u h was u_role in
    let lists = lists_of h.whole items in
    let first : List View = set views seat both in
    let after : List View = set first other spent in
    let seat_less : seat < length views = below views seat v at in
    let other_less : other < length views = below views other u was in
    let more : 1 < length views = omega (arith, apart) in
    let less : other < length first = subst (λ n. other < n) (sym (length-set views seat both)) other_less in
    let moves : (b : Account) → IsReturned views h.whole lists b → IsReturned after h.whole lists b = λ b x. (x.0, x.1, back_spent first (h.whole.place b.number) other (back_set views (h.whole.place b.number) seat v both at (unspent v role) x.2).1) in
    let one : weight u ≡ 1 = ap weight plain in
    let heavy : weight v ≡ length v.back + 1 = ap (λ (r : Role). weight_as r (length v.back)) role in
    let heavier : weight both ≡ length v.back + 2 = omega arith in
    let F : ℕ → View → Type 0 = λ j w. Fits after h.whole lists j w in
    record {
      whole = h.whole;
      are_lists = h.are_lists;
      few = h.few;
      put_by = h.put_by;
      taken_by = h.taken_by;
      counted = omega (arith, weight-set first other u spent there, weight-set views seat v both at, h.counted);
      accounted = λ n made. accounted_spent first n other seat u both there (set_here views seat both seat_less) refl (λ e. apart (sym e))
          (λ c. as_second v.account.number u.account.number n (numbers v.back) (subst (λ (x : View). Contains (numbers (x.account ∷ x.back)) n) plain c))
          (accounted_set views n seat v both at refl (λ c. behind_first v.account.number u.account.number n (numbers v.back) c) (h.accounted n made));
      each = each_set F first other spent tt (λ i x not_other e'. each_set F views seat both
          (mine.0, mine.1, mine.2, mine.3, mine.4, All-cons (IsReturned after h.whole lists) u.account v.back (theirs.1, theirs.4, spent_there first (h.whole.place u.account.number) other (sym theirs.0) less) (All-weaker (IsReturned views h.whole lists) (IsReturned after h.whole lists) moves v.back mine.5))
          (λ i' x' not_seat e''. others_return x'.role views after h.whole lists i' x' more moves (h.each i' x' e'')) i x e');
    }

abbrev with_rest : Whole → Outcome → Whole
with_rest whole c = record whole { rest = whole.rest ++ c ∷ [] }

-- where no other pass is out, what another seat knows stays so as a completion is taken out
others_empty : (r : Role) (views views' : List View) (whole : Whole) (c : Outcome) (items items' : List Outcome) (seat : ℕ) (u : View) → 1 < length views → whole.shape.puts + whole.shape.takes ≤ whole.made → r ≢ Holder
    → FitsAs views whole (lists_of whole items) seat u r → FitsAs views' (with_rest whole c) (lists_of (with_rest whole c) items') seat u r
others_empty Opening views views' whole c items items' seat u more all in_house fits = absurd (omega (arith, fits.1))
others_empty Keeper views views' whole c items items' seat u more all in_house fits = (fits.0, fits.1, fits.2, λ less. absurd (omega arith))
others_empty Holder views views' whole c items items' seat u more all in_house fits = absurd (in_house refl)
others_empty Teller views views' whole c items items' seat u more all in_house fits = told_whatever_left whole.put whole.taken (whole.rest ++ items) ((whole.rest ++ c ∷ []) ++ items') u.account.told fits
others_empty Spent views views' whole c items items' seat u more all in_house fits = tt

-- a pass that took in all others
module _ (seat : ℕ) (v : View) (role : v.role ≡ Holder) (all : length v.back + 1 ≡ v.account.shape.puts + v.account.shape.takes) where
  heavy : weight v ≡ v.account.shape.puts + v.account.shape.takes
  heavy = ap (λ (r : Role). weight_as r (length v.back)) role ∙ all

  -- it stands for all that were made
  alone : (items : List Outcome) (views : List View) (h : Kept items views) → get_elem? views seat ≡ some v → v.account.shape ≡ h.whole.shape → (sum_by weight views ≤ weight v) × (h.whole.shape.puts + h.whole.shape.takes ≤ h.whole.made)
  alone items views h at same =
      let full : weight v ≡ h.whole.shape.puts + h.whole.shape.takes = heavy ∙ ap (λ (s : Shape). s.puts + s.takes) same in
      let there : weight v ≤ sum_by weight views = weight_there views seat v at in
      (omega (arith, h.counted, h.few), omega (arith, h.counted))

  pub empties : Pops Kept seat v (λ x w. (w ≡ holding v.account v.back (v.rest ++ x ∷ [])) × (length w.rest ≤ v.account.shape.capacity))
  empties x items views h at =
      let mine = held (x ∷ items) views seat v h at role in
      let only = alone (x ∷ items) views h at mine.2 in
      let w : View = holding v.account v.back (v.rest ++ x ∷ []) in
      let whole' = with_rest h.whole x in
      let lists = lists_of h.whole (x ∷ items) in
      let lists' = lists_of whole' items in
      let same_left : whole'.rest ++ items ≡ h.whole.rest ++ x ∷ items = append_assoc h.whole.rest (x ∷ []) items in
      let views' : List View = set views seat w in
      let less : seat < length views = below views seat v at in
      let same_weight : weight v ≡ weight w = ap (λ (r : Role). weight_as r (length v.back)) role in
      let moves : (b : Account) → IsReturned views h.whole lists b → IsReturned views' whole' lists' b = λ b y.
      (y.0, agrees_whatever_left h.whole.put h.whole.taken (h.whole.rest ++ x ∷ items) (whole'.rest ++ items) b y.1, (back_set views (h.whole.place b.number) seat v w at (unspent v role) y.2).1) in
      let F : ℕ → View → Type 0 = λ j u. Fits views' whole' lists' j u in (
        w,
        record {
          whole = whole';
          are_lists = subst (λ (l : List Outcome). AreLists h.whole.shape (record { put = h.whole.put; taken = h.whole.taken; left = l })) (sym same_left) h.are_lists;
          few = h.few;
          put_by = h.put_by;
          taken_by = h.taken_by;
          counted = omega (arith, weight-set views seat v w at, h.counted);
          accounted = λ n made. accounted_set views n seat v w at refl (λ c. c) (h.accounted n made);
          each = each_set F views seat w
              (mine.0, mine.1, mine.2, ap (λ l. l ++ x ∷ []) mine.3, agrees_whatever_left h.whole.put h.whole.taken (h.whole.rest ++ x ∷ items) (whole'.rest ++ items) v.account mine.4, All-weaker (IsReturned views h.whole lists) (IsReturned views' whole' lists') moves v.back mine.5)
              (λ j u apart there. others_empty u.role views views' h.whole x (x ∷ items) items j u (let there_less : j < length views = below views j u there in omega (arith, apart)) only.1 (only_holder views seat j v u at there only.0 apart) (h.each j u there));
        },
        (refl, subst (λ (y : List Outcome × Shape). length (y.0 ++ x ∷ []) ≤ y.1.capacity) (λ i. (sym mine.3 i, sym mine.2 i)) (omega (arith, h.are_lists.room, length-append h.whole.rest (x ∷ items), length-append h.whole.rest (x ∷ [])))),
      )

  pub settles : Learns Kept seat v (λ items. Settles v.account.shape (v.account ∷ v.back) (v.rest ++ items))
  settles items views h at =
      let mine = held items views seat v h at role in
      let only = alone items views h at mine.2 in
      let lists = lists_of h.whole items in
      record {
        lists = lists;
        are_lists = subst (λ (s : Shape). AreLists s lists) (sym mine.2) h.are_lists;
        agree = All-cons (Agrees lists) v.account v.back mine.4 (All-weaker (IsReturned views h.whole lists) (Agrees lists) (λ b (x : IsReturned views h.whole lists b). x.1) v.back mine.5);
        complete = λ n less.
            let made : n < h.whole.made = (let enough : h.whole.shape.puts + h.whole.shape.takes ≤ h.whole.made = only.1 in let same : v.account.shape.puts + v.account.shape.takes ≡ h.whole.shape.puts + h.whole.shape.takes = ap (λ (s : Shape). s.puts + s.takes) mine.2 in omega arith) in
            let (j, u, there, holder, contains) = h.accounted n made in
            dite (ℕ_discrete j seat)
            (λ (here : j ≡ seat). subst (λ (x : View). Contains (numbers (x.account ∷ x.back)) n) (some-injective u v (sym there ∙ ap (λ i. get_elem? views i) here ∙ at)) contains)
            (λ (apart : j ≢ seat). absurd (only_holder views seat j v u at there only.0 apart holder));
        left_is = ap (λ l. l ++ items) (sym mine.3);
      }
