-- Chains: what one more at the end, one fewer and a change of a holder leave of where links lead.
use Rattle.std.proofs.Common.{◌≡◌, ◌≢◌, ◌⊎◌, ℕ, zero, suc, ◌+◌, ◌<◌, ◌≤◌, List, Option, Some, None, inl, inr, refl, ap, sym, subst, ◌∙◌, arith}
use Rattle.std.proofs.lemmas.Bool.{cases_eq}
use Rattle.freeze_ledger.specs.declared.freeze.Freeze.{Freeze}
use Rattle.ccb.specs.Places.{index_of}
use Rattle.freeze_ledger.specs.Entries.{freeze_at, Changes}
use Rattle.freeze_ledger.specs.Chained.{LinkLeads, LinkLeadsTo, lower, higher}
use Rattle.freeze_ledger.specs.Links.{unless, first_with}
use Rattle.freeze_ledger.specs.Invariant.{AreApart, AreGiven}

-- an order of numbers
pub record IsOrder (comes : ℕ → ℕ → Type 0) : Type 0 where
  pub never : (m : ℕ) → comes m m → ⊥
  pub on : (l m n : ℕ) → comes l m → comes m n → comes l n
  pub one_way : (m n : ℕ) → m ≢ n → comes m n ⊎ comes n m

less : (m n : ℕ) → (m < n) ⊎ (n ≤ m)
less zero zero = inr (omega arith)
less zero (suc n) = inl (omega arith)
less (suc m) zero = inr (omega arith)
less (suc m) (suc n) = elim (less m n) [ inl l ↦ inl (omega (arith, l)) | inr g ↦ inr (omega (arith, g)) ]

pub rising : IsOrder lower
rising = record {
  never = λ m l. omega (arith, l);
  on = λ l m n a b. omega (arith, a, b);
  one_way = λ m n apart. elim (less m n) [ inl l ↦ inl l | inr g ↦ inr (omega (arith, g, apart)) ];
}

pub falling : IsOrder higher
falling = record {
  never = λ m l. omega (arith, l);
  on = λ l m n a b. omega (arith, a, b);
  one_way = λ m n apart. elim (less m n) [ inl l ↦ inr l | inr g ↦ inl (omega (arith, g, apart)) ];
}

pub decided : (link : Option ℕ) (key : ℕ) → (link ≡ Some key) ⊎ (link ≢ Some key)
decided None key = inr (λ e. cc e)
decided (Some other) key =
    elim (cases_eq other key) [
      | inl same ↦ inl (ap Some same)
      | inr apart ↦ inr (λ e. let same : other ≡ key = cc e in apart same)
    ]

-- what is there after a removal was there, under another key
stayed : (old new : List (Option Freeze)) (key : ℕ) → Changes old new key None → (k : ℕ) (f : Freeze) → freeze_at new k ≡ Some f → (k ≢ key) × (freeze_at old k ≡ Some f)
stayed old new key change k f e =
    let apart : k ≢ key = λ same. let none : None ≡ Some f = sym change.changed ∙ (ap (freeze_at new) (sym same) ∙ e) in cc none in
    (apart, sym (change.others k apart) ∙ e)

same_freeze : (slots : List (Option Freeze)) (k j : ℕ) (f g : Freeze) → freeze_at slots k ≡ Some f → freeze_at slots j ≡ Some g → k ≡ j → f ≡ g
same_freeze slots k j f g e e2 same =
    let both : Some f ≡ Some g = sym e ∙ (ap (freeze_at slots) same ∙ e2) in
    cc both

module _ (comes : ℕ → ℕ → Type 0) (order : IsOrder comes) where
  -- a link that does not lead to what went
  leads_still : (old new : List (Option Freeze)) (key p n : ℕ) (link : Option ℕ) → Changes old new key None → link ≢ Some key → LinkLeads comes old p n link → LinkLeads comes new p n link
  leads_still old new key p n None change other was = λ k f e named c. was k f (stayed old new key change k f e).1 named c
  leads_still old new key p n (Some j) change other was =
      record {
        freeze = was.freeze;
        there = change.others j (λ same. other (ap Some same)) ∙ was.there;
        named = was.named;
        behind = was.behind;
        first = λ o b e named c d. was.first o b (stayed old new key change o b e).1 named c d;
      }

  -- a link that leads on from what went, from a number of which what went came first
  leads_past : (old new : List (Option Freeze)) (key p n : ℕ) (f : Freeze) (link : Option ℕ) → AreApart old → Changes old new key None → freeze_at old key ≡ Some f → comes n f.number → ((o : ℕ) (b : Freeze) → freeze_at old o ≡ Some b → index_of b.place ≡ p → comes n b.number → comes b.number f.number → ⊥) → LinkLeads comes old p f.number link → LinkLeads comes new p n link
  leads_past old new key p n f None apart change there behind between was = λ k g e named c.
      let s = stayed old new key change k g e in
      elim (order.one_way g.number f.number (λ same. s.0 (apart k key g f s.1 there same))) [
        | inl before ↦ between k g s.1 named c before
        | inr after ↦ was k g s.1 named after
      ]
  leads_past old new key p n f (Some j) apart change there behind between was =
      record {
        freeze = was.freeze;
        there = change.others j (λ same. let it : was.freeze ≡ f = same_freeze old j key was.freeze f was.there there same in order.never f.number (subst (λ (x : Freeze). comes f.number x.number) it was.behind)) ∙ was.there;
        named = was.named;
        behind = order.on n f.number was.freeze.number behind was.behind;
        first = λ o b e named c d.
            let s = stayed old new key change o b e in
            elim (order.one_way b.number f.number (λ same. s.0 (apart o key b f s.1 there same))) [
              | inl before ↦ between o b s.1 named c before
              | inr after ↦ was.first o b s.1 named after d
            ];
      }

  -- what leads to a freeze is what that leads back to
  leads_back : (old : List (Option Freeze)) (key k p : ℕ) (f g : Freeze) (link : Option ℕ) → AreApart old → freeze_at old key ≡ Some f → freeze_at old k ≡ Some g → index_of g.place ≡ p → index_of f.place ≡ p → LinkLeadsTo comes old p g.number key → LinkLeads (λ m n. comes n m) old p f.number link → link ≡ Some k
  leads_back old key k p f g None apart there at named f_named to back =
      let it : to.freeze ≡ f = same_freeze old key key to.freeze f to.there there refl in
      absurd (back k g at named (subst (λ (x : Freeze). comes g.number x.number) it to.behind))
  leads_back old key k p f g (Some j) apart there at named f_named to back =
      let it : to.freeze ≡ f = same_freeze old key key to.freeze f to.there there refl in
      let behind : comes g.number f.number = subst (λ (x : Freeze). comes g.number x.number) it to.behind in
      elim (cases_eq j k) [
        | inl same ↦ ap Some same
        | inr other ↦
            let h : Freeze = back.freeze in
            elim (order.one_way g.number h.number (λ same. other (apart j k h g back.there at (sym same)))) [
              | inl before ↦ absurd (to.first j h back.there back.named before (subst (λ (x : Freeze). comes h.number x.number) (sym it) back.behind))
              | inr after ↦ absurd (back.first k g at named behind after)
            ]
      ]

  -- the link of each other entry, once one is gone
  pub links_left : (old new : List (Option Freeze)) (key : ℕ) (f : Freeze) (next next2 : ℕ → Option ℕ) (before : Option ℕ) → AreApart old → Changes old new key None → freeze_at old key ≡ Some f → LinkLeads (λ m n. comes n m) old (index_of f.place) f.number before → ((k : ℕ) (g : Freeze) → freeze_at old k ≡ Some g → LinkLeads comes old (index_of g.place) g.number (next k)) → ((k : ℕ) → before ≡ Some k → next2 k ≡ next key) → ((k : ℕ) → before ≢ Some k → next2 k ≡ next k) → (k : ℕ) (g : Freeze) → freeze_at new k ≡ Some g → LinkLeads comes new (index_of g.place) g.number (next2 k)
  links_left old new key f next next2 before apart change there back each led kept k g e =
      let s = stayed old new key change k g e in
      elim (decided before k) [
        | inl yes_k ↦
            let to : LinkLeadsTo (λ m n. comes n m) old (index_of f.place) f.number k = subst (λ (l : Option ℕ). LinkLeads (λ m n. comes n m) old (index_of f.place) f.number l) yes_k back in
            let it : to.freeze ≡ g = same_freeze old k k to.freeze g to.there s.1 refl in
            let named : index_of g.place ≡ index_of f.place = subst (λ (x : Freeze). index_of x.place ≡ index_of f.place) it to.named in
            let behind : comes g.number f.number = subst (λ (x : Freeze). comes x.number f.number) it to.behind in
            let between : (o : ℕ) (b : Freeze) → freeze_at old o ≡ Some b → index_of b.place ≡ index_of f.place → comes g.number b.number → comes b.number f.number → ⊥ = λ o b at b_named c d. to.first o b at b_named d (subst (λ (x : Freeze). comes x.number b.number) (sym it) c) in
            let on = leads_past old new key (index_of f.place) g.number f (next key) apart change there behind between (each key f there) in
            subst (λ (l : Option ℕ). LinkLeads comes new (index_of g.place) g.number l) (sym (led k yes_k)) (subst (λ (p : ℕ). LinkLeads comes new p g.number (next key)) (sym named) on)
        | inr other ↦
            let was = each k g s.1 in
            let not_it : next k ≢ Some key = λ to_key.
            let to : LinkLeadsTo comes old (index_of g.place) g.number key = subst (λ (l : Option ℕ). LinkLeads comes old (index_of g.place) g.number l) to_key was in
            let it : to.freeze ≡ f = same_freeze old key key to.freeze f to.there there refl in
            let named : index_of f.place ≡ index_of g.place = subst (λ (x : Freeze). index_of x.place ≡ index_of g.place) it to.named in
            let back_there = subst (λ (p : ℕ). LinkLeads (λ m n. comes n m) old p f.number before) named back in
            other (leads_back old key k (index_of g.place) f g before apart there s.1 refl named to back_there) in
            subst (λ (l : Option ℕ). LinkLeads comes new (index_of g.place) g.number l) (sym (kept k other)) (leads_still old new key (index_of g.place) g.number (next k) change not_it was)
      ]

  -- and the end of a chain
  pub end_left : (old new : List (Option Freeze)) (key n q : ℕ) (f : Freeze) (before next end end2 : Option ℕ) → AreApart old → Changes old new key None → freeze_at old key ≡ Some f → ((k : ℕ) (g : Freeze) → freeze_at old k ≡ Some g → comes n g.number) → LinkLeads (λ m n. comes n m) old (index_of f.place) f.number before → LinkLeads comes old (index_of f.place) f.number next → LinkLeads comes old q n end → (q ≡ index_of f.place → end2 ≡ unless before next end) → (q ≢ index_of f.place → end2 ≡ end) → LinkLeads comes new q n end2
  end_left old new key n q f before next end end2 apart change there all back on was here elsewhere =
      elim (cases_eq q (index_of f.place)) [
        | inl same ↦
            subst (λ (l : Option ℕ). LinkLeads comes new q n l) (sym (here same)) (subst (λ (p : ℕ). LinkLeads comes new p n (unless before next end)) (sym same) (at_it before back (subst (λ (p : ℕ). LinkLeads comes old p n end) same was)))
        | inr other ↦
            subst (λ (l : Option ℕ). LinkLeads comes new q n l) (sym (elsewhere other)) (leads_still old new key q n end change (λ to_key.
            let to : LinkLeadsTo comes old q n key = subst (λ (l : Option ℕ). LinkLeads comes old q n l) to_key was in
            let it : to.freeze ≡ f = same_freeze old key key to.freeze f to.there there refl in
            other (sym to.named ∙ ap (λ (x : Freeze). index_of x.place) it)) was)
      ]
    where
      at_it : (before : Option ℕ) → LinkLeads (λ m n. comes n m) old (index_of f.place) f.number before → LinkLeads comes old (index_of f.place) n end → LinkLeads comes new (index_of f.place) n (unless before next end)
      at_it None back was = leads_past old new key (index_of f.place) n f next apart change there (all key f there) (λ o b at named c d. back o b at named d) on
      at_it (Some j) back was =
          leads_still old new key (index_of f.place) n end change (λ to_key.
          let to : LinkLeadsTo comes old (index_of f.place) n key = subst (λ (l : Option ℕ). LinkLeads comes old (index_of f.place) n l) to_key was in
          let it : to.freeze ≡ f = same_freeze old key key to.freeze f to.there there refl in
          to.first j back.freeze back.there back.named (all j back.freeze back.there) (subst (λ (x : Freeze). comes back.freeze.number x.number) (sym it) back.behind)) was

  -- another holder changes nothing of where links lead
  pub leads_handed : (old new : List (Option Freeze)) (key p n : ℕ) (f later : Freeze) (link : Option ℕ) → Changes old new key (Some later) → freeze_at old key ≡ Some f → later.number ≡ f.number → later.place ≡ f.place → LinkLeads comes old p n link → LinkLeads comes new p n link
  leads_handed old new key p n f later None change there number place was = λ k g e named c.
      elim (cases_eq k key) [
        | inl same ↦
            let both : Some later ≡ Some g = sym change.changed ∙ (ap (freeze_at new) (sym same) ∙ e) in
            let it : later ≡ g = cc both in
            was key f there (ap index_of (sym place) ∙ (ap (λ (x : Freeze). index_of x.place) it ∙ named)) (subst (λ (m : ℕ). comes n m) (sym (ap (λ (x : Freeze). x.number) it) ∙ number) c)
        | inr other ↦ was k g (sym (change.others k other) ∙ e) named c
      ]
  leads_handed old new key p n f later (Some j) change there number place was =
      let first : (o : ℕ) (b : Freeze) → freeze_at new o ≡ Some b → index_of b.place ≡ p → comes n b.number → comes b.number was.freeze.number → ⊥ = λ o b e named c d.
      elim (cases_eq o key) [
        | inl same ↦
            let both : Some later ≡ Some b = sym change.changed ∙ (ap (freeze_at new) (sym same) ∙ e) in
            let it : later ≡ b = cc both in
            let same_number : b.number ≡ f.number = sym (ap (λ (x : Freeze). x.number) it) ∙ number in
            was.first key f there (ap index_of (sym place) ∙ (ap (λ (x : Freeze). index_of x.place) it ∙ named)) (subst (λ (m : ℕ). comes n m) same_number c) (subst (λ (m : ℕ). comes m was.freeze.number) same_number d)
        | inr other ↦ was.first o b (sym (change.others o other) ∙ e) named c d
      ] in
      elim (cases_eq j key) [
        | inl same ↦
            let it : was.freeze ≡ f = same_freeze old j key was.freeze f was.there there same in
            record {
              freeze = later;
              there = ap (freeze_at new) same ∙ change.changed;
              named = ap index_of place ∙ (sym (ap (λ (x : Freeze). index_of x.place) it) ∙ was.named);
              behind = subst (λ (m : ℕ). comes n m) (ap (λ (x : Freeze). x.number) it ∙ sym number) was.behind;
              first = λ o b e named c d. first o b e named c (subst (λ (m : ℕ). comes b.number m) (number ∙ sym (ap (λ (x : Freeze). x.number) it)) d);
            }
        | inr other ↦ record { freeze = was.freeze; there = change.others j other ∙ was.there; named = was.named; behind = was.behind; first = first }
      ]

-- one more, under a key that was free and a number above all
pub record Enters (old new : List (Option Freeze)) (key greatest : ℕ) (f : Freeze) : Type 0 where
  pub change : Changes old new key (Some f)
  pub vacant : freeze_at old key ≡ None
  pub number : f.number ≡ greatest + 1
  pub given : AreGiven old greatest
  pub apart : AreApart old

not_vacant : (old new : List (Option Freeze)) (key greatest : ℕ) (f : Freeze) → Enters old new key greatest f → (k : ℕ) (g : Freeze) → freeze_at old k ≡ Some g → k ≢ key
not_vacant old new key greatest f it k g e = λ same. let none : None ≡ Some g = sym it.vacant ∙ (ap (freeze_at old) (sym same) ∙ e) in cc none

came_or_was : (old new : List (Option Freeze)) (key greatest : ℕ) (f : Freeze) → Enters old new key greatest f → (k : ℕ) (g : Freeze) → freeze_at new k ≡ Some g → (f ≡ g) ⊎ (freeze_at old k ≡ Some g)
came_or_was old new key greatest f it k g e =
    elim (cases_eq k key) [
      | inl same ↦ let both : Some f ≡ Some g = sym it.change.changed ∙ (ap (freeze_at new) (sym same) ∙ e) in inl (cc both)
      | inr other ↦ inr (sym (it.change.others k other) ∙ e)
    ]

-- what led up leads up, but at the place's last, which led nowhere
up_entered : (old new : List (Option Freeze)) (key greatest p n : ℕ) (f : Freeze) (link : Option ℕ) → Enters old new key greatest f → (link ≡ None → index_of f.place ≡ p → ⊥) → LinkLeads lower old p n link → LinkLeads lower new p n link
up_entered old new key greatest p n f None it led was = λ k g e named c.
    elim (came_or_was old new key greatest f it k g e) [
      | inl is ↦ led refl (ap (λ (x : Freeze). index_of x.place) is ∙ named)
      | inr there ↦ was k g there named c
    ]
up_entered old new key greatest p n f (Some j) it led was =
    record {
      freeze = was.freeze;
      there = it.change.others j (not_vacant old new key greatest f it j was.freeze was.there) ∙ was.there;
      named = was.named;
      behind = was.behind;
      first = λ o b e named c d.
          elim (came_or_was old new key greatest f it o b e) [
            | inl is ↦ let b_is : f.number ≡ b.number = ap (λ (x : Freeze). x.number) is in omega (arith, b_is, d, it.number, (it.given j was.freeze was.there).1)
            | inr there ↦ was.first o b there named c d
          ];
    }

-- what led down leads down
down_entered : (old new : List (Option Freeze)) (key greatest p n : ℕ) (f : Freeze) (link : Option ℕ) → Enters old new key greatest f → n ≤ greatest + 1 → LinkLeads higher old p n link → LinkLeads higher new p n link
down_entered old new key greatest p n f None it below was = λ k g e named c.
    elim (came_or_was old new key greatest f it k g e) [
      | inl is ↦ let g_is : f.number ≡ g.number = ap (λ (x : Freeze). x.number) is in omega (arith, g_is, c, it.number, below)
      | inr there ↦ was k g there named c
    ]
down_entered old new key greatest p n f (Some j) it below was =
    record {
      freeze = was.freeze;
      there = it.change.others j (not_vacant old new key greatest f it j was.freeze was.there) ∙ was.there;
      named = was.named;
      behind = was.behind;
      first = λ o b e named c d.
          elim (came_or_was old new key greatest f it o b e) [
            | inl is ↦ let b_is : f.number ≡ b.number = ap (λ (x : Freeze). x.number) is in omega (arith, b_is, c, it.number, below)
            | inr there ↦ was.first o b there named c d
          ];
    }

-- at other places the last is who it was
last_elsewhere : (old new : List (Option Freeze)) (key greatest p : ℕ) (f : Freeze) (link : Option ℕ) → Enters old new key greatest f → p ≢ index_of f.place → LinkLeads higher old p (greatest + 1) link → LinkLeads higher new p (greatest + 1 + 1) link
last_elsewhere old new key greatest p f None it other was = λ k g e named c.
    elim (came_or_was old new key greatest f it k g e) [
      | inl is ↦ other (sym named ∙ sym (ap (λ (x : Freeze). index_of x.place) is))
      | inr there ↦ was k g there named (omega (arith, (it.given k g there).1))
    ]
last_elsewhere old new key greatest p f (Some j) it other was =
    record {
      freeze = was.freeze;
      there = it.change.others j (not_vacant old new key greatest f it j was.freeze was.there) ∙ was.there;
      named = was.named;
      behind = omega (arith, was.behind);
      first = λ o b e named c d.
          elim (came_or_was old new key greatest f it o b e) [
            | inl is ↦ other (sym named ∙ sym (ap (λ (x : Freeze). index_of x.place) is))
            | inr there ↦ was.first o b there named (omega (arith, (it.given o b there).1)) d
          ];
    }

-- the place's last leads nowhere, and no other
is_last : (old : List (Option Freeze)) (greatest k p : ℕ) (g : Freeze) (last : Option ℕ) → AreApart old → AreGiven old greatest → freeze_at old k ≡ Some g → index_of g.place ≡ p → LinkLeads higher old p (greatest + 1) last → LinkLeads lower old p g.number None → last ≡ Some k
is_last old greatest k p g None apart given at named ends none = absurd (ends k g at named (omega (arith, (given k g at).1)))
is_last old greatest k p g (Some j) apart given at named ends none =
    elim (cases_eq j k) [
      | inl same ↦ ap Some same
      | inr other ↦
          let h : Freeze = ends.freeze in
          elim (rising.one_way g.number h.number (λ same. other (apart j k h g ends.there at (sym same)))) [
            | inl before ↦ absurd (none j h ends.there ends.named before)
            | inr after ↦ absurd (ends.first k g at named (omega (arith, (given k g at).1)) after)
          ]
    ]

pub laters_entered : (old new : List (Option Freeze)) (key greatest : ℕ) (f : Freeze) (last : Option ℕ) (next next2 : ℕ → Option ℕ) → Enters old new key greatest f → LinkLeads higher old (index_of f.place) (greatest + 1) last → ((k : ℕ) (g : Freeze) → freeze_at old k ≡ Some g → LinkLeads lower old (index_of g.place) g.number (next k)) → next2 key ≡ None → ((k : ℕ) → last ≡ Some k → next2 k ≡ Some key) → ((k : ℕ) → k ≢ key → last ≢ Some k → next2 k ≡ next k) → (k : ℕ) (g : Freeze) → freeze_at new k ≡ Some g → LinkLeads lower new (index_of g.place) g.number (next2 k)
laters_entered old new key greatest f last next next2 it ends each mine led kept k g e =
    elim (cases_eq k key) [
      | inl same ↦
          let none : next2 k ≡ None = ap next2 same ∙ mine in
          let both : Some f ≡ Some g = sym it.change.changed ∙ (ap (freeze_at new) (sym same) ∙ e) in
          let is : f ≡ g = cc both in
          let g_is : f.number ≡ g.number = ap (λ (x : Freeze). x.number) is in
          let nothing : LinkLeads lower new (index_of g.place) g.number None = λ o h e2 named c.
          elim (came_or_was old new key greatest f it o h e2) [
            | inl is_too ↦ let h_is : f.number ≡ h.number = ap (λ (x : Freeze). x.number) is_too in omega (arith, h_is, g_is, c)
            | inr there ↦ omega (arith, (it.given o h there).1, g_is, it.number, c)
          ] in
          subst (λ (l : Option ℕ). LinkLeads lower new (index_of g.place) g.number l) (sym none) nothing
      | inr other ↦
          let at : freeze_at old k ≡ Some g = sym (it.change.others k other) ∙ e in
          elim (decided last k) [
            | inl yes_k ↦
                let to : LinkLeadsTo higher old (index_of f.place) (greatest + 1) k = subst (λ (l : Option ℕ). LinkLeads higher old (index_of f.place) (greatest + 1) l) yes_k ends in
                let is : to.freeze ≡ g = same_freeze old k k to.freeze g to.there at refl in
                let named : index_of g.place ≡ index_of f.place = subst (λ (x : Freeze). index_of x.place ≡ index_of f.place) is to.named in
                let w_is : to.freeze.number ≡ g.number = ap (λ (x : Freeze). x.number) is in
                let leads : LinkLeadsTo lower new (index_of g.place) g.number key = record {
                  freeze = f;
                  there = it.change.changed;
                  named = sym named;
                  behind = omega (arith, (it.given k g at).1, it.number);
                  first = λ o h e2 h_named c d.
                      elim (came_or_was old new key greatest f it o h e2) [
                        | inl is_too ↦ let h_is : f.number ≡ h.number = ap (λ (x : Freeze). x.number) is_too in omega (arith, h_is, d)
                        | inr there ↦ to.first o h there (h_named ∙ named) (omega (arith, d, it.number)) (omega (arith, c, w_is))
                      ];
                } in
                subst (λ (l : Option ℕ). LinkLeads lower new (index_of g.place) g.number l) (sym (led k yes_k)) leads
            | inr not_last ↦
                let was = each k g at in
                let leads = up_entered old new key greatest (index_of g.place) g.number f (next k) it (λ none named.
                let nothing : LinkLeads lower old (index_of g.place) g.number None = subst (λ (l : Option ℕ). LinkLeads lower old (index_of g.place) g.number l) none was in
                not_last (is_last old greatest k (index_of g.place) g last it.apart it.given at refl (subst (λ (p : ℕ). LinkLeads higher old p (greatest + 1) last) named ends) nothing)) was in
                subst (λ (l : Option ℕ). LinkLeads lower new (index_of g.place) g.number l) (sym (kept k other not_last)) leads
          ]
    ]

pub earliers_entered : (old new : List (Option Freeze)) (key greatest : ℕ) (f : Freeze) (last : Option ℕ) (prev prev2 : ℕ → Option ℕ) → Enters old new key greatest f → LinkLeads higher old (index_of f.place) (greatest + 1) last → ((k : ℕ) (g : Freeze) → freeze_at old k ≡ Some g → LinkLeads higher old (index_of g.place) g.number (prev k)) → prev2 key ≡ last → ((k : ℕ) → k ≢ key → prev2 k ≡ prev k) → (k : ℕ) (g : Freeze) → freeze_at new k ≡ Some g → LinkLeads higher new (index_of g.place) g.number (prev2 k)
earliers_entered old new key greatest f last prev prev2 it ends each mine kept k g e =
    elim (cases_eq k key) [
      | inl same ↦
          let both : Some f ≡ Some g = sym it.change.changed ∙ (ap (freeze_at new) (sym same) ∙ e) in
          let is : f ≡ g = cc both in
          let down = down_entered old new key greatest (index_of f.place) (greatest + 1) f last it (omega arith) ends in
          let by_f : LinkLeads higher new (index_of f.place) f.number last = subst (λ (n : ℕ). LinkLeads higher new (index_of f.place) n last) (sym it.number) down in
          let by_g : LinkLeads higher new (index_of g.place) g.number last = subst (λ (x : Freeze). LinkLeads higher new (index_of x.place) x.number last) is by_f in
          subst (λ (l : Option ℕ). LinkLeads higher new (index_of g.place) g.number l) (sym (ap prev2 same ∙ mine)) by_g
      | inr other ↦
          let at : freeze_at old k ≡ Some g = sym (it.change.others k other) ∙ e in
          let down = down_entered old new key greatest (index_of g.place) g.number f (prev k) it (omega (arith, (it.given k g at).1)) (each k g at) in
          subst (λ (l : Option ℕ). LinkLeads higher new (index_of g.place) g.number l) (sym (kept k other)) down
    ]

pub first_entered : (old new : List (Option Freeze)) (key greatest q : ℕ) (f : Freeze) (last first first2 : Option ℕ) → Enters old new key greatest f → LinkLeads higher old (index_of f.place) (greatest + 1) last → LinkLeads lower old q 0 first → (q ≡ index_of f.place → first2 ≡ first_with last first key) → (q ≢ index_of f.place → first2 ≡ first) → LinkLeads lower new q 0 first2
first_entered old new key greatest q f last first first2 it ends was here elsewhere =
    elim (cases_eq q (index_of f.place)) [
      | inl same ↦
          subst (λ (l : Option ℕ). LinkLeads lower new q 0 l) (sym (here same)) (subst (λ (p : ℕ). LinkLeads lower new p 0 (first_with last first key)) (sym same) (at_it last first ends (subst (λ (p : ℕ). LinkLeads lower old p 0 first) same was)))
      | inr other ↦
          subst (λ (l : Option ℕ). LinkLeads lower new q 0 l) (sym (elsewhere other)) (up_entered old new key greatest q 0 f first it (λ none named. other (sym named)) was)
    ]
  where
    at_it : (last first : Option ℕ) → LinkLeads higher old (index_of f.place) (greatest + 1) last → LinkLeads lower old (index_of f.place) 0 first → LinkLeads lower new (index_of f.place) 0 (first_with last first key)
    at_it None first ends was = record {
      freeze = f;
      there = it.change.changed;
      named = refl;
      behind = omega (arith, it.number);
      first = λ o b e named c d.
          elim (came_or_was old new key greatest f it o b e) [
            | inl is ↦ let b_is : f.number ≡ b.number = ap (λ (x : Freeze). x.number) is in omega (arith, b_is, d)
            | inr there ↦ ends o b there named (omega (arith, d, it.number))
          ];
    }
    at_it (Some j) first ends was =
        up_entered old new key greatest (index_of f.place) 0 f first it (λ none named.
        let nothing : LinkLeads lower old (index_of f.place) 0 None = subst (λ (l : Option ℕ). LinkLeads lower old (index_of f.place) 0 l) none was in
        nothing j ends.freeze ends.there ends.named ((it.given j ends.freeze ends.there).0)) was

pub last_entered : (old new : List (Option Freeze)) (key greatest q : ℕ) (f : Freeze) (last last2 : Option ℕ) → Enters old new key greatest f → LinkLeads higher old q (greatest + 1) last → (q ≡ index_of f.place → last2 ≡ Some key) → (q ≢ index_of f.place → last2 ≡ last) → LinkLeads higher new q (greatest + 1 + 1) last2
last_entered old new key greatest q f last last2 it was here elsewhere =
    elim (cases_eq q (index_of f.place)) [
      | inl same ↦
          let leads : LinkLeadsTo higher new q (greatest + 1 + 1) key = record {
            freeze = f;
            there = it.change.changed;
            named = sym same;
            behind = omega (arith, it.number);
            first = λ o b e named c d. omega (arith, c, d, it.number);
          } in
          subst (λ (l : Option ℕ). LinkLeads higher new q (greatest + 1 + 1) l) (sym (here same)) leads
      | inr other ↦ subst (λ (l : Option ℕ). LinkLeads higher new q (greatest + 1 + 1) l) (sym (elsewhere other)) (last_elsewhere old new key greatest q f last it other was)
    ]
