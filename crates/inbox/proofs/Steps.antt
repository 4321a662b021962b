-- A put and a take keep the rule, and what a pass learns from it.
use Rattle.std.proofs.Common.{◌≡◌, ◌≢◌, ℕ, ◌+◌, ◌<◌, ◌≤◌, List, [], ◌∷◌, ◌++◌, length, set, sym, refl, ap, ◌∙◌, subst, append_assoc, length-append, arith}
use Rattle.std.specs.List.{Contains}
use Rattle.std.proofs.lemmas.List.Elements.{All-nil, All-push, All-weaker}
use mathlib.Core.Option.{some}
use lib.ListN.{get_elem?}
use Rattle.crossbeam_queue.specs.Fifo.{Pushes, Pops, Learns}
use Rattle.ccb.specs.Completion.{Outcome}
use Rattle.inbox.specs.declared.account.Entry.{Entry}
use Rattle.inbox.specs.declared.account.Shape.{Shape}
use Rattle.inbox.specs.declared.account.Account.{Account}
use Rattle.inbox.specs.declared.account.View.{View}
use Rattle.inbox.specs.declared.account.Role.{Role}
use Rattle.inbox.specs.declared.account.Role.TheVariants.{Opening, Keeper, Holder, Teller, Spent}
use Rattle.inbox.specs.InboxLists.{InboxLists, AreLists, Agrees, IsPut, Takes, entry, completions}
use Rattle.inbox.specs.Seats.{Whole, Kept, Knows, Fits, FitsAs, IsReturned, lists_of, holding, weight, numbers}
use Rattle.inbox.proofs.Entries.{three, by_pass-own, completions-push, agrees_after_put, agrees_after_take, told_after_put, told_after_take, starts_itself}
use Rattle.inbox.proofs.Seating.{below, each_set, weight-set, accounted_set, back_set, unspent}

-- what a pass knows
abbrev pub Held : List View → Whole → InboxLists → ℕ → View → Type 0
Held views whole lists seat v = FitsAs views whole lists seat v Holder

pub held : (items : List Outcome) (views : List View) (seat : ℕ) (v : View) (h : Kept items views) → get_elem? views seat ≡ some v → v.role ≡ Holder → Held views h.whole (lists_of h.whole items) seat v
held items views seat v h at role = subst (FitsAs views h.whole (lists_of h.whole items) seat v) role (h.each seat v at)

-- the whole and the account of a pass after its put and its take
abbrev pub with_put : Whole → ℕ → Outcome → Whole
with_put whole m c = record whole { put = whole.put ++ entry m c ∷ [] }

abbrev pub with_take : Whole → ℕ → Outcome → Whole
with_take whole m c = record whole { taken = whole.taken ++ entry m c ∷ [] }

abbrev pub after_put : Account → Whole → Outcome → Account
after_put a whole c = record a { put = a.put ++ c ∷ []; seen_put = whole.put ++ entry a.number c ∷ []; seen_taken = whole.taken }

abbrev pub after_take : Account → Whole → Outcome → Account
after_take a whole c = record a { taken = a.taken ++ c ∷ []; seen_put = whole.put; seen_taken = whole.taken ++ entry a.number c ∷ [] }

-- what another seat knows stays so at a put by the pass m, and at its take
others_put : (r : Role) (views views' : List View) (whole : Whole) (left left' : List Outcome) (m seat : ℕ) (u : View) (c : Outcome) → whole.place m < length views → seat ≢ whole.place m
    → ((b : Account) → IsReturned views whole (three whole.put whole.taken left) b → IsReturned views' (with_put whole m c) (three (with_put whole m c).put (with_put whole m c).taken left') b)
    → FitsAs views whole (three whole.put whole.taken left) seat u r → FitsAs views' (with_put whole m c) (three (with_put whole m c).put (with_put whole m c).taken left') seat u r
others_put Opening views views' whole left left' m seat u c less apart moves fits = absurd (omega (arith, fits.0, fits.1, less, apart))
others_put Keeper views views' whole left left' m seat u c less apart moves fits = fits
others_put Holder views views' whole left left' m seat u c less apart moves fits = (
  fits.0,
  fits.1,
  fits.2,
  fits.3,
  agrees_after_put whole.put whole.taken left left' m c u.account (λ same. apart (fits.0 ∙ ap whole.place (sym same))) fits.4,
  All-weaker (IsReturned views whole (three whole.put whole.taken left)) (IsReturned views' (with_put whole m c) (three (with_put whole m c).put (with_put whole m c).taken left')) moves u.back fits.5,
)
others_put Teller views views' whole left left' m seat u c less apart moves fits = told_after_put whole.put whole.taken left left' (entry m c) u.account.told fits
others_put Spent views views' whole left left' m seat u c less apart moves fits = tt

others_take : (r : Role) (views views' : List View) (whole : Whole) (left left' : List Outcome) (m seat : ℕ) (u : View) (c : Outcome) → whole.place m < length views → seat ≢ whole.place m
    → ((b : Account) → IsReturned views whole (three whole.put whole.taken left) b → IsReturned views' (with_take whole m c) (three (with_take whole m c).put (with_take whole m c).taken left') b)
    → FitsAs views whole (three whole.put whole.taken left) seat u r → FitsAs views' (with_take whole m c) (three (with_take whole m c).put (with_take whole m c).taken left') seat u r
others_take Opening views views' whole left left' m seat u c less apart moves fits = absurd (omega (arith, fits.0, fits.1, less, apart))
others_take Keeper views views' whole left left' m seat u c less apart moves fits = fits
others_take Holder views views' whole left left' m seat u c less apart moves fits = (
  fits.0,
  fits.1,
  fits.2,
  fits.3,
  agrees_after_take whole.put whole.taken left left' m c u.account (λ same. apart (fits.0 ∙ ap whole.place (sym same))) fits.4,
  All-weaker (IsReturned views whole (three whole.put whole.taken left)) (IsReturned views' (with_take whole m c) (three (with_take whole m c).put (with_take whole m c).taken left')) moves u.back fits.5,
)
others_take Teller views views' whole left left' m seat u c less apart moves fits = told_after_take whole.put whole.taken left left' (entry m c) u.account.told fits
others_take Spent views views' whole left left' m seat u c less apart moves fits = tt

lists_after_put : (shape : Shape) (whole : Whole) (items : List Outcome) (m : ℕ) (c : Outcome) → whole.rest ≡ [] → length items < shape.capacity → m < shape.puts → AreLists shape (lists_of whole items) → AreLists shape (lists_of (with_put whole m c) (items ++ c ∷ []))
lists_after_put shape whole items m c none room putter h = record {
  in_order = completions-push whole.put m c ∙ ap (λ l. l ++ c ∷ []) h.in_order ∙ append_assoc (completions whole.taken) (whole.rest ++ items) (c ∷ []) ∙ ap (λ l. completions whole.taken ++ l) (append_assoc whole.rest items (c ∷ []));
  room = omega (arith, ap length none, length-append whole.rest (items ++ c ∷ []), length-append items (c ∷ []));
  putters = All-push (λ (e : Entry). e.pass < shape.puts) whole.put (entry m c) h.putters putter;
  takers = h.takers;
}

lists_after_take : (shape : Shape) (whole : Whole) (items : List Outcome) (m : ℕ) (c : Outcome) → whole.rest ≡ [] → shape.puts ≤ m → m < shape.puts + shape.takes → AreLists shape (lists_of whole (c ∷ items)) → AreLists shape (lists_of (with_take whole m c) items)
lists_after_take shape whole items m c none from to h = record {
  in_order = h.in_order ∙ ap (λ l. completions whole.taken ++ (l ++ c ∷ items)) none ∙ sym (append_assoc (completions whole.taken) (c ∷ []) items) ∙ (λ i. sym (completions-push whole.taken m c) i ++ (sym none i ++ items));
  room = omega (arith, h.room, length-append whole.rest (c ∷ items), length-append whole.rest items);
  putters = h.putters;
  takers = All-push (λ (e : Entry). (shape.puts ≤ e.pass) × (e.pass < shape.puts + shape.takes)) whole.taken (entry m c) h.takers (from, to);
}

-- a pass that took in no other, and that took out nothing
module _ (seat : ℕ) (v : View) (plain : v ≡ holding v.account [] []) where
  pub puts : (n : ℕ) (x : Outcome) → n ≡ v.account.shape.capacity → v.account.number < v.account.shape.puts → Pushes Kept n seat v x (λ w. (w ≡ holding w.account [] []) × IsPut v.account w.account x)
  puts n x capacity putter items views room h at =
      let role : v.role ≡ Holder = ap (λ (u : View). u.role) plain in
      let a = v.account in
      let m = a.number in
      let mine = held (items) views seat v h at role in
      let whole' = with_put h.whole m x in
      let lists = lists_of h.whole (items) in
      let after = lists_of whole' (items ++ x ∷ []) in
      let a' : Account = after_put a h.whole x in
      let w : View = holding a' [] [] in
      let views' : List View = set views seat w in
      let less : seat < length views = below views seat v at in
      let same_shape : a.shape ≡ h.whole.shape = mine.2 in
      let none : h.whole.rest ≡ [] = sym mine.3 ∙ ap (λ (u : View). u.rest) plain in
      let agrees' : Agrees after a' = record { own_put = by_pass-own m h.whole.put a.put x mine.4.own_put; own_taken = mine.4.own_taken; seen_put = starts_itself whole'.put; seen_taken = starts_itself h.whole.taken; told = told_after_put h.whole.put h.whole.taken (h.whole.rest ++ items) (h.whole.rest ++ (items ++ x ∷ [])) (entry m x) a.told mine.4.told } in
      let moves : (b : Account) → IsReturned views h.whole lists b → IsReturned views' whole' after b = λ b was.
      let back = back_set views (h.whole.place b.number) seat v w at (unspent v role) was.2 in
      (was.0, agrees_after_put h.whole.put h.whole.taken (h.whole.rest ++ (items)) (h.whole.rest ++ (items ++ x ∷ [])) m x b (λ same. back.0 (ap h.whole.place (sym same) ∙ sym mine.0)) was.1, back.1) in
      let F : ℕ → View → Type 0 = λ j u. Fits views' whole' after j u in (
        w,
        record {
          whole = whole';
          are_lists = lists_after_put h.whole.shape h.whole items m x none (subst (λ (k : ℕ). length items < k) (capacity ∙ ap (λ (s : Shape). s.capacity) same_shape) room) (subst (λ (s : Shape). m < s.puts) same_shape putter) h.are_lists;
          few = h.few;
          put_by = All-push (λ (e : Entry). e.pass < h.whole.made) h.whole.put (entry m x) h.put_by mine.1;
          taken_by = h.taken_by;
          counted = (let one : weight v ≡ 1 = ap weight plain in omega (arith, weight-set views seat v w at, h.counted));
          accounted = λ k made. accounted_set views k seat v w at refl (λ c. subst (λ (u : View). Contains (numbers (u.account ∷ u.back)) k) plain c) (h.accounted k made);
          each = each_set F views seat w (mine.0, mine.1, mine.2, sym none, agrees', All-nil (IsReturned views' whole' after))
              (λ j u apart there. others_put u.role views views' h.whole (h.whole.rest ++ (items)) (h.whole.rest ++ (items ++ x ∷ [])) m j u x (subst (λ (k : ℕ). k < length views) mine.0 less) (λ same. apart (same ∙ sym mine.0)) moves (h.each j u there));
        },
        (refl, record { lists = lists; are_lists = subst (λ (s : Shape). AreLists s lists) (sym same_shape) h.are_lists; agrees = mine.4; after_is = refl }),
      )

  pub takes : v.account.shape.puts ≤ v.account.number → v.account.number < v.account.shape.puts + v.account.shape.takes → Pops Kept seat v (λ x w. (w ≡ holding w.account [] []) × Takes v.account w.account x)
  takes from to x items views h at =
      let role : v.role ≡ Holder = ap (λ (u : View). u.role) plain in
      let a = v.account in
      let m = a.number in
      let mine = held (x ∷ items) views seat v h at role in
      let whole' = with_take h.whole m x in
      let lists = lists_of h.whole (x ∷ items) in
      let after = lists_of whole' (items) in
      let a' : Account = after_take a h.whole x in
      let w : View = holding a' [] [] in
      let views' : List View = set views seat w in
      let less : seat < length views = below views seat v at in
      let same_shape : a.shape ≡ h.whole.shape = mine.2 in
      let none : h.whole.rest ≡ [] = sym mine.3 ∙ ap (λ (u : View). u.rest) plain in
      let agrees' : Agrees after a' = record { own_put = mine.4.own_put; own_taken = by_pass-own m h.whole.taken a.taken x mine.4.own_taken; seen_put = starts_itself h.whole.put; seen_taken = starts_itself whole'.taken; told = told_after_take h.whole.put h.whole.taken (h.whole.rest ++ x ∷ items) (h.whole.rest ++ items) (entry m x) a.told mine.4.told } in
      let moves : (b : Account) → IsReturned views h.whole lists b → IsReturned views' whole' after b = λ b was.
      let back = back_set views (h.whole.place b.number) seat v w at (unspent v role) was.2 in
      (was.0, agrees_after_take h.whole.put h.whole.taken (h.whole.rest ++ (x ∷ items)) (h.whole.rest ++ (items)) m x b (λ same. back.0 (ap h.whole.place (sym same) ∙ sym mine.0)) was.1, back.1) in
      let F : ℕ → View → Type 0 = λ j u. Fits views' whole' after j u in (
        w,
        record {
          whole = whole';
          are_lists = lists_after_take h.whole.shape h.whole items m x none (subst (λ (s : Shape). s.puts ≤ m) same_shape from) (subst (λ (s : Shape). m < s.puts + s.takes) same_shape to) h.are_lists;
          few = h.few;
          taken_by = All-push (λ (e : Entry). e.pass < h.whole.made) h.whole.taken (entry m x) h.taken_by mine.1;
          put_by = h.put_by;
          counted = (let one : weight v ≡ 1 = ap weight plain in omega (arith, weight-set views seat v w at, h.counted));
          accounted = λ k made. accounted_set views k seat v w at refl (λ c. subst (λ (u : View). Contains (numbers (u.account ∷ u.back)) k) plain c) (h.accounted k made);
          each = each_set F views seat w (mine.0, mine.1, mine.2, sym none, agrees', All-nil (IsReturned views' whole' after))
              (λ j u apart there. others_take u.role views views' h.whole (h.whole.rest ++ (x ∷ items)) (h.whole.rest ++ (items)) m j u x (subst (λ (k : ℕ). k < length views) mine.0 less) (λ same. apart (same ∙ sym mine.0)) moves (h.each j u there));
        },
        (refl, record { lists = lists; rest = items; are_lists = subst (λ (s : Shape). AreLists s lists) (sym same_shape) h.are_lists; agrees = mine.4; oldest = ap (λ l. l ++ x ∷ items) none; after_is = refl }),
      )

  pub learns : Learns Kept seat v (λ items. Knows v.account items)
  learns items views h at =
      let mine = held items views seat v h at (ap (λ (u : View). u.role) plain) in
      let lists = lists_of h.whole items in
      let none : h.whole.rest ≡ [] = sym mine.3 ∙ ap (λ (u : View). u.rest) plain in
      record { lists = lists; are_lists = subst (λ (s : Shape). AreLists s lists) (sym mine.2) h.are_lists; agrees = mine.4; left_is = ap (λ l. l ++ items) none }
