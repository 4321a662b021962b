-- Links as they stand in their table: chains stay chains under one more, one fewer and a change of a holder.
use Rattle.std.proofs.Common.{◌≡◌, ◌≢◌, ℕ, ◌+◌, ◌<◌, List, [], length, set, replicate, Option, Some, None, inl, inr, refl, ap, sym, subst, ◌∙◌, arith}
use Rattle.std.proofs.lemmas.Bool.{cases_eq}
use Rattle.std.proofs.lemmas.List.{get_or-set_same, get_or-set_other, length-set, get_or-replicate, length-replicate}
use Rattle.freeze_ledger.specs.declared.chains.Link.{Link}
use Rattle.freeze_ledger.specs.declared.chains.Ends.{Ends}
use Rattle.freeze_ledger.specs.declared.freeze.Freeze.{Freeze}
use Rattle.freeze_ledger.specs.declared.freeze.Holder.TheVariants.{Timer}
use Rattle.ccb.specs.Places.{index_of}
use Rattle.freeze_ledger.specs.Entries.{EntriesState, freeze_at, Changes}
use Rattle.freeze_ledger.specs.Invariant.{AreApart, AreGiven}
use Rattle.freeze_ledger.specs.Links.{no_link, no_ends, link_at, ends_at, led_on, led_back, appended, left, ends_with, ends_without, first_with, unless, IsWithin}
use Rattle.freeze_ledger.specs.Chained.{LinkLeads, IsChained, lower, higher}
use Rattle.freeze_ledger.proofs.Chained.{rising, falling, links_left, end_left, leads_handed, Enters, laters_entered, earliers_entered, first_entered, last_entered}

length_on : (links : List Link) (from to : Option ℕ) → length (led_on links from to) ≡ length links
length_on links None to = refl
length_on links (Some k) to = length-set links k (record (link_at links k) { later = to })

length_back : (links : List Link) (from to : Option ℕ) → length (led_back links from to) ≡ length links
length_back links None to = refl
length_back links (Some k) to = length-set links k (record (link_at links k) { earlier = to })

later_on : (links : List Link) (k : ℕ) (to : Option ℕ) → k < length links → (link_at (led_on links (Some k) to) k).later ≡ to
later_on links k to within = ap (λ (l : Link). l.later) (get_or-set_same links k (record (link_at links k) { later = to }) no_link within)

later_on_other : (links : List Link) (from to : Option ℕ) (k : ℕ) → from ≢ Some k → (link_at (led_on links from to) k).later ≡ (link_at links k).later
later_on_other links None to k other = refl
later_on_other links (Some j) to k other = ap (λ (l : Link). l.later) (get_or-set_other links j k (record (link_at links j) { later = to }) no_link (λ same. other (ap Some (sym same))))

earlier_on : (links : List Link) (from to : Option ℕ) (k : ℕ) → IsWithin links from → (link_at (led_on links from to) k).earlier ≡ (link_at links k).earlier
earlier_on links None to k within = refl
earlier_on links (Some j) to k within =
    elim (cases_eq k j) [
      | inl same ↦ subst (λ (m : ℕ). (link_at (led_on links (Some j) to) m).earlier ≡ (link_at links m).earlier) (sym same) (ap (λ (l : Link). l.earlier) (get_or-set_same links j (record (link_at links j) { later = to }) no_link within))
      | inr other ↦ ap (λ (l : Link). l.earlier) (get_or-set_other links j k (record (link_at links j) { later = to }) no_link other)
    ]

earlier_back : (links : List Link) (k : ℕ) (to : Option ℕ) → k < length links → (link_at (led_back links (Some k) to) k).earlier ≡ to
earlier_back links k to within = ap (λ (l : Link). l.earlier) (get_or-set_same links k (record (link_at links k) { earlier = to }) no_link within)

earlier_back_other : (links : List Link) (from to : Option ℕ) (k : ℕ) → from ≢ Some k → (link_at (led_back links from to) k).earlier ≡ (link_at links k).earlier
earlier_back_other links None to k other = refl
earlier_back_other links (Some j) to k other = ap (λ (l : Link). l.earlier) (get_or-set_other links j k (record (link_at links j) { earlier = to }) no_link (λ same. other (ap Some (sym same))))

later_back : (links : List Link) (from to : Option ℕ) (k : ℕ) → IsWithin links from → (link_at (led_back links from to) k).later ≡ (link_at links k).later
later_back links None to k within = refl
later_back links (Some j) to k within =
    elim (cases_eq k j) [
      | inl same ↦ subst (λ (m : ℕ). (link_at (led_back links (Some j) to) m).later ≡ (link_at links m).later) (sym same) (ap (λ (l : Link). l.later) (get_or-set_same links j (record (link_at links j) { earlier = to }) no_link within))
      | inr other ↦ ap (λ (l : Link). l.later) (get_or-set_other links j k (record (link_at links j) { earlier = to }) no_link other)
    ]

within_of : (links : List Link) (more : List Link) (link : Option ℕ) → length more ≡ length links → IsWithin links link → IsWithin more link
within_of links more None same within = tt
within_of links more (Some k) same within = omega (arith, same, within)

-- where a link leads there is one
pub within_lead : (comes : ℕ → ℕ → Type 0) (slots : List (Option Freeze)) (links : List Link) (p n : ℕ) (link : Option ℕ) → ((key : ℕ) (f : Freeze) → freeze_at slots key ≡ Some f → key < length links) → LinkLeads comes slots p n link → IsWithin links link
within_lead comes slots links p n None within to = tt
within_lead comes slots links p n (Some k) within to = within k to.freeze to.there

some_within : (links : List Link) (link : Option ℕ) (k : ℕ) → link ≡ Some k → IsWithin links link → k < length links
some_within links None k e within = absurd (cc e)
some_within links (Some j) k e within = let same : j ≡ k = cc e in subst (λ (m : ℕ). m < length links) same within

ends_here : (ends : List Ends) (p q : ℕ) (e : Ends) → p < length ends → q ≡ p → ends_at (set ends p e) q ≡ e
ends_here ends p q e within same = ap (ends_at (set ends p e)) same ∙ get_or-set_same ends p e no_ends within

ends_elsewhere : (ends : List Ends) (p q : ℕ) (e : Ends) → q ≢ p → ends_at (set ends p e) q ≡ ends_at ends q
ends_elsewhere ends p q e other = get_or-set_other ends p q e no_ends other

pub chained_removed : (old new : EntriesState) (links : List Link) (ends : List Ends) (key : ℕ) (f : Freeze) → IsChained old links ends → AreApart old.slots → AreGiven old.slots old.greatest → freeze_at old.slots key ≡ Some f → index_of f.place < old.places → Changes old.slots new.slots key None → new.greatest ≡ old.greatest → new.places ≡ old.places → new.keys ≡ old.keys → IsChained new (left links (link_at links key)) (set ends (index_of f.place) (ends_without (ends_at ends (index_of f.place)) (link_at links key)))
chained_removed old new links ends key f is apart given there known change greatest places keys =
    let p : ℕ = index_of f.place in
    let link : Link = link_at links key in
    let on : List Link = led_on links link.earlier link.later in
    let links2 : List Link = left links link in
    let ends2 : List Ends = set ends p (ends_without (ends_at ends p) link) in
    let back = is.earliers key f there in
    let forth = is.laters key f there in
    let e_within : IsWithin links link.earlier = within_lead higher old.slots links p f.number link.earlier is.within back in
    let l_within : IsWithin links link.later = within_lead lower old.slots links p f.number link.later is.within forth in
    let l_on : IsWithin on link.later = within_of links on link.later (length_on links link.earlier link.later) l_within in
    let same_length : length links2 ≡ length links = length_back on link.later link.earlier ∙ length_on links link.earlier link.later in
    let p_within : p < length ends = omega (arith, known, is.places) in
    let bound : (q : ℕ) → q < length ends2 → q < length ends = λ q l. omega (arith, l, length-set ends p (ends_without (ends_at ends p) link)) in
    record {
      firsts = λ q l. end_left lower rising old.slots new.slots key 0 q f link.earlier link.later (ends_at ends q).first (ends_at ends2 q).first apart change there (λ k g e. (given k g e).0) back forth (is.firsts q (bound q l))
          (λ same. ap (λ (e : Ends). e.first) (ends_here ends p q (ends_without (ends_at ends p) link) p_within same) ∙ ap (λ (m : ℕ). unless link.earlier link.later (ends_at ends m).first) (sym same))
          (λ other. ap (λ (e : Ends). e.first) (ends_elsewhere ends p q (ends_without (ends_at ends p) link) other));
      lasts = λ q l. subst (λ (m : ℕ). LinkLeads higher new.slots q (m + 1) (ends_at ends2 q).last) (sym greatest) (end_left higher falling old.slots new.slots key (old.greatest + 1) q f link.later link.earlier (ends_at ends q).last (ends_at ends2 q).last apart change there (λ k g e. omega (arith, (given k g e).1)) forth back (is.lasts q (bound q l))
          (λ same. ap (λ (e : Ends). e.last) (ends_here ends p q (ends_without (ends_at ends p) link) p_within same) ∙ ap (λ (m : ℕ). unless link.later link.earlier (ends_at ends m).last) (sym same))
          (λ other. ap (λ (e : Ends). e.last) (ends_elsewhere ends p q (ends_without (ends_at ends p) link) other)));
      laters = links_left lower rising old.slots new.slots key f (λ k. (link_at links k).later) (λ k. (link_at links2 k).later) link.earlier apart change there back is.laters
          (λ k e. later_back on link.later link.earlier k l_on ∙ (ap (λ (o : Option ℕ). (link_at (led_on links o link.later) k).later) e ∙ later_on links k link.later (some_within links link.earlier k e e_within)))
          (λ k other. later_back on link.later link.earlier k l_on ∙ later_on_other links link.earlier link.later k other);
      earliers = links_left higher falling old.slots new.slots key f (λ k. (link_at links k).earlier) (λ k. (link_at links2 k).earlier) link.later apart change there forth is.earliers
          (λ k e. ap (λ (o : Option ℕ). (link_at (led_back on o link.earlier) k).earlier) e ∙ earlier_back on k link.earlier (some_within on link.later k e l_on))
          (λ k other. earlier_back_other on link.later link.earlier k other ∙ earlier_on links link.earlier link.later k e_within);
      within = λ k g e.
          elim (cases_eq k key) [
            | inl same ↦ let none : None ≡ Some g = sym change.changed ∙ (ap (freeze_at new.slots) (sym same) ∙ e) in absurd (cc none)
            | inr other ↦ omega (arith, same_length, is.within k g (sym (change.others k other) ∙ e))
          ];
      places = omega (arith, length-set ends p (ends_without (ends_at ends p) link), is.places, places);
      keys = omega (arith, same_length, is.keys, keys);
    }

pub chained_entered : (old new : EntriesState) (links : List Link) (ends : List Ends) (key : ℕ) (f : Freeze) → IsChained old links ends → Enters old.slots new.slots key old.greatest f → key < old.keys → index_of f.place < old.places → new.greatest ≡ old.greatest + 1 → new.places ≡ old.places → new.keys ≡ old.keys → IsChained new (appended links (ends_at ends (index_of f.place)) key) (set ends (index_of f.place) (ends_with (ends_at ends (index_of f.place)) key))
chained_entered old new links ends key f is it key_within known greatest places keys =
    let p : ℕ = index_of f.place in
    let end : Ends = ends_at ends p in
    let mine : Link = record { earlier = end.last; later = None } in
    let own : List Link = set links key mine in
    let links2 : List Link = appended links end key in
    let ends2 : List Ends = set ends p (ends_with end key) in
    let p_within : p < length ends = omega (arith, known, is.places) in
    let last = is.lasts p p_within in
    let key_there : key < length links = omega (arith, key_within, is.keys) in
    let last_within : IsWithin links end.last = within_lead higher old.slots links p (old.greatest + 1) end.last is.within last in
    let last_own : IsWithin own end.last = within_of links own end.last (length-set links key mine) last_within in
    let not_key : end.last ≢ Some key = last_is_other end.last last in
    let same_length : length links2 ≡ length links = length_on own end.last (Some key) ∙ length-set links key mine in
    let bound : (q : ℕ) → q < length ends2 → q < length ends = λ q l. omega (arith, l, length-set ends p (ends_with end key)) in
    let own_key : link_at own key ≡ mine = get_or-set_same links key mine no_link key_there in
    let own_other : (k : ℕ) → k ≢ key → link_at own k ≡ link_at links k = λ k other. get_or-set_other links key k mine no_link other in
    record {
      firsts = λ q l. first_entered old.slots new.slots key old.greatest q f end.last (ends_at ends q).first (ends_at ends2 q).first it last (is.firsts q (bound q l))
          (λ same. ap (λ (e : Ends). e.first) (ends_here ends p q (ends_with end key) p_within same) ∙ ap (λ (m : ℕ). first_with end.last (ends_at ends m).first key) (sym same))
          (λ other. ap (λ (e : Ends). e.first) (ends_elsewhere ends p q (ends_with end key) other));
      lasts = λ q l. subst (λ (m : ℕ). LinkLeads higher new.slots q (m + 1) (ends_at ends2 q).last) (sym greatest) (last_entered old.slots new.slots key old.greatest q f (ends_at ends q).last (ends_at ends2 q).last it (is.lasts q (bound q l))
          (λ same. ap (λ (e : Ends). e.last) (ends_here ends p q (ends_with end key) p_within same))
          (λ other. ap (λ (e : Ends). e.last) (ends_elsewhere ends p q (ends_with end key) other)));
      laters = laters_entered old.slots new.slots key old.greatest f end.last (λ k. (link_at links k).later) (λ k. (link_at links2 k).later) it last is.laters
          (later_on_other own end.last (Some key) key not_key ∙ ap (λ (l : Link). l.later) own_key)
          (λ k e. ap (λ (o : Option ℕ). (link_at (led_on own o (Some key)) k).later) e ∙ later_on own k (Some key) (some_within own end.last k e last_own))
          (λ k other not_last. later_on_other own end.last (Some key) k not_last ∙ ap (λ (l : Link). l.later) (own_other k other));
      earliers = earliers_entered old.slots new.slots key old.greatest f end.last (λ k. (link_at links k).earlier) (λ k. (link_at links2 k).earlier) it last is.earliers
          (earlier_on own end.last (Some key) key last_own ∙ ap (λ (l : Link). l.earlier) own_key)
          (λ k other. earlier_on own end.last (Some key) k last_own ∙ ap (λ (l : Link). l.earlier) (own_other k other));
      within = λ k g e.
          elim (cases_eq k key) [
            | inl same ↦ omega (arith, same, same_length, key_there)
            | inr other ↦ omega (arith, same_length, is.within k g (sym (it.change.others k other) ∙ e))
          ];
      places = omega (arith, length-set ends p (ends_with end key), is.places, places);
      keys = omega (arith, same_length, is.keys, keys);
    }
  where
    last_is_other : (last : Option ℕ) → LinkLeads higher old.slots (index_of f.place) (old.greatest + 1) last → last ≢ Some key
    last_is_other None to = λ e. cc e
    last_is_other (Some j) to = λ e.
        let same : j ≡ key = cc e in
        let none : None ≡ Some to.freeze = sym it.vacant ∙ (ap (freeze_at old.slots) (sym same) ∙ to.there) in
        cc none

pub chained_handed : (old new : EntriesState) (links : List Link) (ends : List Ends) (key due : ℕ) (f : Freeze) → IsChained old links ends → freeze_at old.slots key ≡ Some f → Changes old.slots new.slots key (Some (record f { holder = Timer due })) → new.greatest ≡ old.greatest → new.places ≡ old.places → new.keys ≡ old.keys → IsChained new links ends
chained_handed old new links ends key due f is there change greatest places keys =
    let later : Freeze = record f { holder = Timer due } in
    let was : (k : ℕ) (g : Freeze) → freeze_at new.slots k ≡ Some g → (h : Freeze) × (freeze_at old.slots k ≡ Some h) × (h.number ≡ g.number) × (h.place ≡ g.place) = λ k g e.
    elim (cases_eq k key) [
      | inl same ↦
          let both : Some later ≡ Some g = sym change.changed ∙ (ap (freeze_at new.slots) (sym same) ∙ e) in
          let it : later ≡ g = cc both in
          (f, ap (freeze_at old.slots) same ∙ there, ap (λ (x : Freeze). x.number) it, ap (λ (x : Freeze). x.place) it)
      | inr other ↦ (g, sym (change.others k other) ∙ e, refl, refl)
    ] in
    record {
      firsts = λ q l. leads_handed lower rising old.slots new.slots key q 0 f later (ends_at ends q).first change there refl refl (is.firsts q l);
      lasts = λ q l. subst (λ (m : ℕ). LinkLeads higher new.slots q (m + 1) (ends_at ends q).last) (sym greatest) (leads_handed higher falling old.slots new.slots key q (old.greatest + 1) f later (ends_at ends q).last change there refl refl (is.lasts q l));
      laters = λ k g e.
          let h = was k g e in
          let leads = leads_handed lower rising old.slots new.slots key (index_of h.0.place) h.0.number f later (link_at links k).later change there refl refl (is.laters k h.0 h.1) in
          moved lower (link_at links k).later h.0 g h.2 h.3 leads;
      earliers = λ k g e.
          let h = was k g e in
          let leads = leads_handed higher falling old.slots new.slots key (index_of h.0.place) h.0.number f later (link_at links k).earlier change there refl refl (is.earliers k h.0 h.1) in
          moved higher (link_at links k).earlier h.0 g h.2 h.3 leads;
      within = λ k g e. let h = was k g e in is.within k h.0 h.1;
      places = is.places ∙ sym places;
      keys = is.keys ∙ sym keys;
    }
  where
    moved : (comes : ℕ → ℕ → Type 0) (link : Option ℕ) (h g : Freeze) → h.number ≡ g.number → h.place ≡ g.place → LinkLeads comes new.slots (index_of h.place) h.number link → LinkLeads comes new.slots (index_of g.place) g.number link
    moved comes link h g number place leads =
        subst (λ (n : ℕ). LinkLeads comes new.slots (index_of g.place) n link) number (subst (λ (p : ℕ). LinkLeads comes new.slots p h.number link) (ap index_of place) leads)

-- nothing is chained by nothing
pub chained_empty : (entries : EntriesState) (keys : ℕ) → entries.slots ≡ [] → entries.keys ≡ keys → IsChained entries (replicate keys no_link) (replicate entries.places no_ends)
chained_empty entries keys empty same =
    let none : (key : ℕ) (f : Freeze) → freeze_at entries.slots key ≡ Some f → ⊥ = λ key f e. let no_one : None ≡ Some f = subst (λ (xs : List (Option Freeze)). freeze_at xs key ≡ Some f) empty e in cc no_one in
    let at : (q : ℕ) → q < length (replicate entries.places no_ends) → ends_at (replicate entries.places no_ends) q ≡ no_ends = λ q l. get_or-replicate entries.places q no_ends no_ends (omega (arith, l, length-replicate entries.places no_ends)) in
    record {
      firsts = λ q l. subst (λ (e : Ends). LinkLeads lower entries.slots q 0 e.first) (sym (at q l)) (λ k g e named c. none k g e);
      lasts = λ q l. subst (λ (e : Ends). LinkLeads higher entries.slots q (entries.greatest + 1) e.last) (sym (at q l)) (λ k g e named c. none k g e);
      laters = λ k g e. absurd (none k g e);
      earliers = λ k g e. absurd (none k g e);
      within = λ k g e. absurd (none k g e);
      places = length-replicate entries.places no_ends;
      keys = length-replicate keys no_link ∙ sym same;
    }
