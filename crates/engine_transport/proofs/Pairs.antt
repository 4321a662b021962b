-- The pairs of those CCBs that pass a test, under one more CCB, a change of one, and one fewer: what a queue's list of
-- waiting CCBs has to become.
use Rattle.std.proofs.Common.{◌≡◌, ℕ, ◌<◌, ◌≤◌, List, [], ◌∷◌, ◌++◌, length, map, Bool, true, false, not, ◌||◌, eqb, ltb, Some, None, inl, inr, refl, ap, sym, ◌∙◌, arith, append-nil}
use Rattle.std.specs.List.{filter, count_by}
use Rattle.std.proofs.lemmas.Bool.{cases_Bool, cases_eq, cond-true, cond-false, eq-eqb, ne_eqb, lt-ltb, le-ltb, or_from, or_right, not_from_true, not_from_false}
use Rattle.std.proofs.lemmas.List.{length-map}
use Rattle.std.proofs.lemmas.List.Elements.{filter-append}
use Rattle.std.proofs.lemmas.List.Sums.{length-filter}
use Rattle.ccb.specs.declared.CcbId.{CcbId}
use Rattle.dev_queue.specs.declared.waiting_ccb.WaitingCcb.{WaitingCcb}
use Rattle.dev_queue.specs.Waiting.{with_pair, without, waits}
use Rattle.world.specs.World.{LiveCcb}
use Rattle.ccb.specs.Rising.{AreRising}
use Rattle.world.proofs.Lists.Found.{at, put, leave, at_head, at_tail, put_tail, leave_tail}
use Rattle.world.proofs.Lists.Rising.{rising_high, missing_low, put_here, leave_here, found_bounds}
use Rattle.world.proofs.Steps.Moves.{ccb_key}
use Rattle.engine_transport.specs.Queues.{pair_of, pairs_of}

module _ (p : LiveCcb → Bool) where
  pub pairs_yes : (y : LiveCcb) (ys : List LiveCcb) → p y ≡ true → pairs_of p (y ∷ ys) ≡ pair_of y ∷ pairs_of p ys
  pairs_yes y ys e = ap (map pair_of) (cond-true (p y) (y ∷ filter p ys) (filter p ys) e)

  pub pairs_no : (y : LiveCcb) (ys : List LiveCcb) → p y ≡ false → pairs_of p (y ∷ ys) ≡ pairs_of p ys
  pairs_no y ys e = ap (map pair_of) (cond-false (p y) (y ∷ filter p ys) (filter p ys) e)

  -- the same CCB in front of both
  pairs_both : (y : LiveCcb) (ys zs : List LiveCcb) → pairs_of p ys ≡ pairs_of p zs → pairs_of p (y ∷ ys) ≡ pairs_of p (y ∷ zs)
  pairs_both y ys zs e =
      elim (cases_Bool (p y)) [
        | inl passes ↦ pairs_yes y ys passes ∙ (ap (λ (qs : List WaitingCcb). pair_of y ∷ qs) e ∙ sym (pairs_yes y zs passes))
        | inr fails ↦ pairs_no y ys fails ∙ (e ∙ sym (pairs_no y zs fails))
      ]

  -- there are as many pairs as CCBs that pass
  pub pairs_length : (xs : List LiveCcb) → length (pairs_of p xs) ≡ count_by p xs
  pairs_length xs = length-map (filter p xs) pair_of ∙ length-filter p xs

  -- one more at the end, under the greatest number
  pub pairs_push_yes : (low : ℕ) (xs : List LiveCcb) (high : ℕ) (y : LiveCcb) → AreRising low (map ccb_key xs) high → high < ccb_key y → p y ≡ true → pairs_of p (xs ++ y ∷ []) ≡ with_pair (pair_of y) (pairs_of p xs)
  pairs_push_yes low [] high y h above passes = pairs_yes y [] passes
  pairs_push_yes low (x ∷ xs) high y h above passes =
      let rest = pairs_push_yes (ccb_key x) xs high y h.1 above passes in
      let le = rising_high (ccb_key x) (map ccb_key xs) high h.1 in
      elim (cases_Bool (p x)) [
        | inl one ↦
            pairs_yes x (xs ++ y ∷ []) one
            ∙ (ap (λ (qs : List WaitingCcb). pair_of x ∷ qs) rest
            ∙ (sym (cond-false (ltb (ccb_key y) (ccb_key x)) _ _ (le-ltb _ _ (omega (arith, le, above))))
            ∙ ap (with_pair (pair_of y)) (sym (pairs_yes x xs one))))
        | inr none ↦ pairs_no x (xs ++ y ∷ []) none ∙ (rest ∙ ap (with_pair (pair_of y)) (sym (pairs_no x xs none)))
      ]

  pub pairs_push_no : (xs : List LiveCcb) (y : LiveCcb) → p y ≡ false → pairs_of p (xs ++ y ∷ []) ≡ pairs_of p xs
  pairs_push_no xs y fails =
      ap (map pair_of) (filter-append p xs (y ∷ []) ∙ (ap (λ (zs : List LiveCcb). filter p xs ++ zs) (cond-false (p y) (y ∷ []) [] fails) ∙ append-nil (filter p xs)))

  -- a number that no CCB has does not wait
  pub waits_missing : (n : CcbId) (xs : List LiveCcb) → at ccb_key n.0 xs ≡ None → waits n (pairs_of p xs) ≡ false
  waits_missing n [] e = refl
  waits_missing n (y ∷ ys) e =
      elim (cases_eq (ccb_key y) n.0) [
        | inl same ↦ absurd (let bad : Some y ≡ None = sym (at_head ccb_key n.0 y ys same) ∙ e in cc)
        | inr apart ↦
            let rest = waits_missing n ys (sym (at_tail ccb_key n.0 y ys apart) ∙ e) in
            elim (cases_Bool (p y)) [
              | inl one ↦ ap (waits n) (pairs_yes y ys one) ∙ or_from _ _ (ne_eqb _ _ apart) rest
              | inr none ↦ ap (waits n) (pairs_no y ys none) ∙ rest
            ]
      ]

  -- that of a CCB that passes waits
  pub waits_there : (n : CcbId) (xs : List LiveCcb) (x : LiveCcb) → at ccb_key n.0 xs ≡ Some x → p x ≡ true → waits n (pairs_of p xs) ≡ true
  waits_there n [] x e passes = absurd (let bad : None ≡ Some x = e in cc)
  waits_there n (y ∷ ys) x e passes =
      elim (cases_eq (ccb_key y) n.0) [
        | inl same ↦
            let both : Some y ≡ Some x = sym (at_head ccb_key n.0 y ys same) ∙ e in
            let is : y ≡ x = cc in
            ap (waits n) (pairs_yes y ys (ap p is ∙ passes)) ∙ ap (λ (b : Bool). b || waits n (pairs_of p ys)) (eq-eqb _ _ same)
        | inr apart ↦
            let rest = waits_there n ys x (sym (at_tail ccb_key n.0 y ys apart) ∙ e) passes in
            elim (cases_Bool (p y)) [
              | inl one ↦ ap (waits n) (pairs_yes y ys one) ∙ or_right _ _ rest
              | inr none ↦ ap (waits n) (pairs_no y ys none) ∙ rest
            ]
      ]

  -- nor does that of a CCB that does not pass
  pub waits_other : (n : CcbId) (low : ℕ) (xs : List LiveCcb) (high : ℕ) (x : LiveCcb) → AreRising low (map ccb_key xs) high → at ccb_key n.0 xs ≡ Some x → p x ≡ false → waits n (pairs_of p xs) ≡ false
  waits_other n low [] high x h e fails = refl
  waits_other n low (y ∷ ys) high x h e fails =
      elim (cases_eq (ccb_key y) n.0) [
        | inl same ↦
            let both : Some y ≡ Some x = sym (at_head ccb_key n.0 y ys same) ∙ e in
            let is : y ≡ x = cc in
            ap (waits n) (pairs_no y ys (ap p is ∙ fails)) ∙ waits_missing n ys (missing_low ccb_key (ccb_key y) ys high n.0 (omega (arith, same)) h.1)
        | inr apart ↦
            let rest = waits_other n (ccb_key y) ys high x h.1 (sym (at_tail ccb_key n.0 y ys apart) ∙ e) fails in
            elim (cases_Bool (p y)) [
              | inl one ↦ ap (waits n) (pairs_yes y ys one) ∙ or_from _ _ (ne_eqb _ _ apart) rest
              | inr none ↦ ap (waits n) (pairs_no y ys none) ∙ rest
            ]
      ]

  -- no pair has a number that all are above
  without_low : (n : CcbId) (low : ℕ) (xs : List LiveCcb) (high : ℕ) → n.0 ≤ low → AreRising low (map ccb_key xs) high → without n (pairs_of p xs) ≡ pairs_of p xs
  without_low n low [] high le h = refl
  without_low n low (y ∷ ys) high le h =
      let rest = without_low n (ccb_key y) ys high (omega (arith, le, h.0)) h.1 in
      elim (cases_Bool (p y)) [
        | inl one ↦
            ap (without n) (pairs_yes y ys one)
            ∙ (cond-true (not (eqb (ccb_key y) n.0)) _ _ (not_from_false _ (ne_eqb _ _ (λ s. omega (arith, le, h.0, s))))
            ∙ (ap (λ (qs : List WaitingCcb). pair_of y ∷ qs) rest ∙ sym (pairs_yes y ys one)))
        | inr none ↦ ap (without n) (pairs_no y ys none) ∙ (rest ∙ sym (pairs_no y ys none))
      ]

  with_low : (c : LiveCcb) (low : ℕ) (xs : List LiveCcb) (high : ℕ) → ccb_key c ≤ low → AreRising low (map ccb_key xs) high → with_pair (pair_of c) (pairs_of p xs) ≡ pair_of c ∷ pairs_of p xs
  with_low c low [] high le h = refl
  with_low c low (y ∷ ys) high le h =
      elim (cases_Bool (p y)) [
        | inl one ↦
            ap (with_pair (pair_of c)) (pairs_yes y ys one)
            ∙ (cond-true (ltb (ccb_key c) (ccb_key y)) _ _ (lt-ltb _ _ (omega (arith, le, h.0)))
            ∙ ap (λ (qs : List WaitingCcb). pair_of c ∷ qs) (sym (pairs_yes y ys one)))
        | inr none ↦
            ap (with_pair (pair_of c)) (pairs_no y ys none)
            ∙ (with_low c (ccb_key y) ys high (omega (arith, le, h.0)) h.1
            ∙ ap (λ (qs : List WaitingCcb). pair_of c ∷ qs) (sym (pairs_no y ys none)))
      ]

  -- one that passed, and does no more
  pub pairs_put_out : (low : ℕ) (xs : List LiveCcb) (high : ℕ) (c x : LiveCcb) → AreRising low (map ccb_key xs) high → at ccb_key (ccb_key c) xs ≡ Some x → p x ≡ true → p c ≡ false → pairs_of p (put ccb_key c xs) ≡ without c.ccb.number (pairs_of p xs)
  pairs_put_out low [] high c x h e was is = absurd (let bad : None ≡ Some x = e in cc)
  pairs_put_out low (y ∷ ys) high c x h e was is =
      elim (cases_eq (ccb_key y) (ccb_key c)) [
        | inl same ↦
            let both : Some y ≡ Some x = sym (at_head ccb_key (ccb_key c) y ys same) ∙ e in
            let is_x : y ≡ x = cc in
            ap (pairs_of p) (put_here ccb_key low ys high c y h same)
            ∙ (pairs_no c ys is
            ∙ (sym (without_low c.ccb.number (ccb_key y) ys high (omega (arith, same)) h.1)
            ∙ (sym (cond-false (not (eqb (ccb_key y) (ccb_key c))) _ _ (not_from_true _ (eq-eqb _ _ same)))
            ∙ ap (without c.ccb.number) (sym (pairs_yes y ys (ap p is_x ∙ was))))))
        | inr apart ↦
            let rest = pairs_put_out (ccb_key y) ys high c x h.1 (sym (at_tail ccb_key (ccb_key c) y ys apart) ∙ e) was is in
            ap (pairs_of p) (put_tail ccb_key c y ys apart)
            ∙ elim (cases_Bool (p y)) [
              | inl one ↦
                  pairs_yes y (put ccb_key c ys) one
                  ∙ (ap (λ (qs : List WaitingCcb). pair_of y ∷ qs) rest
                  ∙ (sym (cond-true (not (eqb (ccb_key y) (ccb_key c))) _ _ (not_from_false _ (ne_eqb _ _ apart)))
                  ∙ ap (without c.ccb.number) (sym (pairs_yes y ys one))))
              | inr none ↦ pairs_no y (put ccb_key c ys) none ∙ (rest ∙ ap (without c.ccb.number) (sym (pairs_no y ys none)))
            ]
      ]

  -- one that did not pass, and does now
  pub pairs_put_in : (low : ℕ) (xs : List LiveCcb) (high : ℕ) (c x : LiveCcb) → AreRising low (map ccb_key xs) high → at ccb_key (ccb_key c) xs ≡ Some x → p x ≡ false → p c ≡ true → pairs_of p (put ccb_key c xs) ≡ with_pair (pair_of c) (pairs_of p xs)
  pairs_put_in low [] high c x h e was is = absurd (let bad : None ≡ Some x = e in cc)
  pairs_put_in low (y ∷ ys) high c x h e was is =
      elim (cases_eq (ccb_key y) (ccb_key c)) [
        | inl same ↦
            let both : Some y ≡ Some x = sym (at_head ccb_key (ccb_key c) y ys same) ∙ e in
            let is_x : y ≡ x = cc in
            ap (pairs_of p) (put_here ccb_key low ys high c y h same)
            ∙ (pairs_yes c ys is
            ∙ (sym (with_low c (ccb_key y) ys high (omega (arith, same)) h.1)
            ∙ ap (with_pair (pair_of c)) (sym (pairs_no y ys (ap p is_x ∙ was)))))
        | inr apart ↦
            let there = sym (at_tail ccb_key (ccb_key c) y ys apart) ∙ e in
            let rest = pairs_put_in (ccb_key y) ys high c x h.1 there was is in
            let up = (found_bounds ccb_key (ccb_key y) ys high (ccb_key c) x h.1 there).0 in
            ap (pairs_of p) (put_tail ccb_key c y ys apart)
            ∙ elim (cases_Bool (p y)) [
              | inl one ↦
                  pairs_yes y (put ccb_key c ys) one
                  ∙ (ap (λ (qs : List WaitingCcb). pair_of y ∷ qs) rest
                  ∙ (sym (cond-false (ltb (ccb_key c) (ccb_key y)) _ _ (le-ltb _ _ (omega (arith, up))))
                  ∙ ap (with_pair (pair_of c)) (sym (pairs_yes y ys one))))
              | inr none ↦ pairs_no y (put ccb_key c ys) none ∙ (rest ∙ ap (with_pair (pair_of c)) (sym (pairs_no y ys none)))
            ]
      ]

  -- one that did not pass, and does not
  pub pairs_put_no : (low : ℕ) (xs : List LiveCcb) (high : ℕ) (c x : LiveCcb) → AreRising low (map ccb_key xs) high → at ccb_key (ccb_key c) xs ≡ Some x → p x ≡ false → p c ≡ false → pairs_of p (put ccb_key c xs) ≡ pairs_of p xs
  pairs_put_no low [] high c x h e was is = refl
  pairs_put_no low (y ∷ ys) high c x h e was is =
      elim (cases_eq (ccb_key y) (ccb_key c)) [
        | inl same ↦
            let both : Some y ≡ Some x = sym (at_head ccb_key (ccb_key c) y ys same) ∙ e in
            let is_x : y ≡ x = cc in
            ap (pairs_of p) (put_here ccb_key low ys high c y h same) ∙ (pairs_no c ys is ∙ sym (pairs_no y ys (ap p is_x ∙ was)))
        | inr apart ↦
            ap (pairs_of p) (put_tail ccb_key c y ys apart)
            ∙ pairs_both y (put ccb_key c ys) ys (pairs_put_no (ccb_key y) ys high c x h.1 (sym (at_tail ccb_key (ccb_key c) y ys apart) ∙ e) was is)
      ]

  -- one fewer that did not pass
  pub pairs_gone : (low : ℕ) (xs : List LiveCcb) (high n : ℕ) (x : LiveCcb) → AreRising low (map ccb_key xs) high → at ccb_key n xs ≡ Some x → p x ≡ false → pairs_of p (leave ccb_key n xs) ≡ pairs_of p xs
  pairs_gone low [] high n x h e was = refl
  pairs_gone low (y ∷ ys) high n x h e was =
      elim (cases_eq (ccb_key y) n) [
        | inl same ↦
            let both : Some y ≡ Some x = sym (at_head ccb_key n y ys same) ∙ e in
            let is_x : y ≡ x = cc in
            ap (pairs_of p) (leave_here ccb_key low ys high n y h same)
            ∙ sym (pairs_no y ys (ap p is_x ∙ was))
        | inr apart ↦
            ap (pairs_of p) (leave_tail ccb_key n y ys apart)
            ∙ pairs_both y (leave ccb_key n ys) ys (pairs_gone (ccb_key y) ys high n x h.1 (sym (at_tail ccb_key n y ys apart) ∙ e) was)
      ]

  -- one fewer that passed
  pub pairs_out : (low : ℕ) (xs : List LiveCcb) (high : ℕ) (n : CcbId) (x : LiveCcb) → AreRising low (map ccb_key xs) high → at ccb_key n.0 xs ≡ Some x → p x ≡ true → pairs_of p (leave ccb_key n.0 xs) ≡ without n (pairs_of p xs)
  pairs_out low [] high n x h e was = absurd (let bad : None ≡ Some x = e in cc)
  pairs_out low (y ∷ ys) high n x h e was =
      elim (cases_eq (ccb_key y) n.0) [
        | inl same ↦
            let both : Some y ≡ Some x = sym (at_head ccb_key n.0 y ys same) ∙ e in
            let is_x : y ≡ x = cc in
            ap (pairs_of p) (leave_here ccb_key low ys high n.0 y h same)
            ∙ (sym (without_low n (ccb_key y) ys high (omega (arith, same)) h.1)
            ∙ (sym (cond-false (not (eqb (ccb_key y) n.0)) _ _ (not_from_true _ (eq-eqb _ _ same)))
            ∙ ap (without n) (sym (pairs_yes y ys (ap p is_x ∙ was)))))
        | inr apart ↦
            let rest = pairs_out (ccb_key y) ys high n x h.1 (sym (at_tail ccb_key n.0 y ys apart) ∙ e) was in
            ap (pairs_of p) (leave_tail ccb_key n.0 y ys apart)
            ∙ elim (cases_Bool (p y)) [
              | inl one ↦
                  pairs_yes y (leave ccb_key n.0 ys) one
                  ∙ (ap (λ (qs : List WaitingCcb). pair_of y ∷ qs) rest
                  ∙ (sym (cond-true (not (eqb (ccb_key y) n.0)) _ _ (not_from_false _ (ne_eqb _ _ apart)))
                  ∙ ap (without n) (sym (pairs_yes y ys one))))
              | inr none ↦ pairs_no y (leave ccb_key n.0 ys) none ∙ (rest ∙ ap (without n) (sym (pairs_no y ys none)))
            ]
      ]

  -- one that is the same pair, and passes as before
  pub pairs_put_same : (low : ℕ) (xs : List LiveCcb) (high : ℕ) (c x : LiveCcb) → AreRising low (map ccb_key xs) high → at ccb_key (ccb_key c) xs ≡ Some x → p c ≡ p x → pair_of c ≡ pair_of x → pairs_of p (put ccb_key c xs) ≡ pairs_of p xs
  pairs_put_same low [] high c x h e passes is = refl
  pairs_put_same low (y ∷ ys) high c x h e passes is =
      elim (cases_eq (ccb_key y) (ccb_key c)) [
        | inl same ↦
            let both : Some y ≡ Some x = sym (at_head ccb_key (ccb_key c) y ys same) ∙ e in
            let is_x : y ≡ x = cc in
            ap (pairs_of p) (put_here ccb_key low ys high c y h same)
            ∙ elim (cases_Bool (p y)) [
              | inl one ↦
                  pairs_yes c ys (passes ∙ (sym (ap p is_x) ∙ one))
                  ∙ (ap (λ (q : WaitingCcb). q ∷ pairs_of p ys) (is ∙ sym (ap pair_of is_x)) ∙ sym (pairs_yes y ys one))
              | inr none ↦ pairs_no c ys (passes ∙ (sym (ap p is_x) ∙ none)) ∙ sym (pairs_no y ys none)
            ]
        | inr apart ↦
            ap (pairs_of p) (put_tail ccb_key c y ys apart)
            ∙ pairs_both y (put ccb_key c ys) ys (pairs_put_same (ccb_key y) ys high c x h.1 (sym (at_tail ccb_key (ccb_key c) y ys apart) ∙ e) passes is)
      ]
