-- What it says that a pass was refused.
use Rattle.std.proofs.Common.{◌≡◌, ℕ, ◌+◌, ◌<◌, ◌≤◌, Bool, if◌then◌else◌, List, [], ◌∷◌, ◌++◌, length, sym, refl, ap, ◌∙◌, subst, eq-eqb, append-nil, length-append, arith, Option, None, Some, MatchOption, IfNone, Result, Ok, Err, MatchResult, OnErr}
use Rattle.std.specs.List.{All}
use Rattle.std.proofs.lemmas.List.{length-map, map-append, nil_from_length}
use Rattle.std.proofs.lemmas.List.Elements.{All-head, All-tail, All-cons, All-weaker}
use Rattle.crossbeam_queue.specs.Fifo.{Held as QueueHeld}
use Rattle.ccb.specs.Completion.{Outcome}
use Rattle.inbox.specs.declared.account.Account.{Account}
use Rattle.inbox.specs.declared.account.Entry.{Entry}
use Rattle.inbox.specs.declared.account.Seen.{Seen}
use Rattle.inbox.specs.declared.account.Shape.{Shape}
use Rattle.inbox.specs.InboxLists.{InboxLists, AreLists, Agrees, BeginWith, Held, IsPut, Takes, StartsWith, by_pass, completions, entry, known_by, learned}
use Rattle.inbox.specs.Refusals.{NoneMeansTaken, RefusedMeansUsed, TookAllKnown, UsedAllKnown, ComesOut}
use Rattle.inbox.specs.Seats.{Knows, new_account}

-- where all are by one pass, those of that pass are all
all_by_one : (n : ℕ) (es : List Entry) → All (λ e. e.pass ≡ n) es → by_pass n es ≡ completions es
all_by_one n [] one = refl
all_by_one n (e ∷ es) one =
    let P : Entry → Type 0 = λ x. x.pass ≡ n in
    let rest : by_pass n es ≡ completions es = all_by_one n es (All-tail P e es one) in
    subst (λ (b : Bool). (if b then e.completion ∷ by_pass n es else by_pass n es) ≡ completions (e ∷ es)) (sym (eq-eqb e.pass n (All-head P e es one))) (ap (λ l. e.completion ∷ l) rest)

length-completions : (es : List Entry) → length (completions es) ≡ length es
length-completions es = simp length-map

starts_completions : (es seen : List Entry) → StartsWith es seen → StartsWith (completions es) (completions seen)
starts_completions es seen begun = (completions begun.0, ap completions begun.1 ∙ map-append (λ (e : Entry). e.completion) seen begun.0)

-- the lists begin with all that the pass knows
begin_with_known : (lists : InboxLists) (a : Account) → Agrees lists a → All (BeginWith lists) (known_by a)
begin_with_known lists a h = All-cons (BeginWith lists) (record { put = a.seen_put; taken = a.seen_taken }) a.told (h.seen_put, h.seen_taken) h.told

-- where nothing is left, all that was put was taken
all_taken : (shape : Shape) (lists : InboxLists) → AreLists shape lists → length lists.left ≡ 0 → completions lists.put ≡ completions lists.taken
all_taken shape lists h none = h.in_order ∙ ap (λ l. completions lists.taken ++ l) (nil_from_length lists.left none) ∙ append-nil (completions lists.taken)

pub none_means_taken : NoneMeansTaken
none_means_taken a h = All-weaker (BeginWith h.lists) (λ (seen : Seen). StartsWith (completions h.lists.taken) (completions seen.put))
    (λ seen begun. subst (λ l. StartsWith l (completions seen.put)) (all_taken a.shape h.lists h.are_lists h.held) (starts_completions h.lists.put seen.put begun.0))
    (known_by a) (begin_with_known h.lists a h.agrees)

pub refused_means_used : RefusedMeansUsed
refused_means_used a h =
    let put = h.lists.put in
    let taken = h.lists.taken in
    All-weaker (BeginWith h.lists) (λ (seen : Seen). length seen.taken + a.shape.capacity ≤ length put)
    (λ seen begun. omega (arith, ap length begun.1.1, length-append seen.taken begun.1.0, ap length h.are_lists.in_order, length-append (completions taken) h.lists.left, length-completions put, length-completions taken, h.held))
    (known_by a) (begin_with_known h.lists a h.agrees)

-- what the only pass of its kind put, or took, is all
lone_taken : (lists : InboxLists) (a : Account) → a.shape.takes ≡ 1 → a.shape.puts ≤ a.number → a.number < a.shape.puts + a.shape.takes → AreLists a.shape lists → Agrees lists a → a.taken ≡ completions lists.taken
lone_taken lists a one from to h agrees = sym agrees.own_taken ∙ all_by_one a.number lists.taken
    (All-weaker (λ (e : Entry). (a.shape.puts ≤ e.pass) × (e.pass < a.shape.puts + a.shape.takes)) (λ (e : Entry). e.pass ≡ a.number) (λ e range. omega (arith, range.0, range.1)) lists.taken h.takers)

lone_put : (lists : InboxLists) (a : Account) → a.shape.puts ≡ 1 → a.number < a.shape.puts → AreLists a.shape lists → Agrees lists a → a.put ≡ completions lists.put
lone_put lists a one to h agrees = sym agrees.own_put ∙ all_by_one a.number lists.put
    (All-weaker (λ (e : Entry). e.pass < a.shape.puts) (λ (e : Entry). e.pass ≡ a.number) (λ e less. omega (arith, less)) lists.put h.putters)

pub lone_take_took : (a : Account) → a.shape.takes ≡ 1 → a.shape.puts ≤ a.number → a.number < a.shape.puts + a.shape.takes → Held a 0 → TookAllKnown a
lone_take_took a one from to h = All-weaker (λ (seen : Seen). StartsWith (completions h.lists.taken) (completions seen.put)) (λ (seen : Seen). StartsWith a.taken (completions seen.put))
    (λ seen begun. subst (λ l. StartsWith l (completions seen.put)) (sym (lone_taken h.lists a one from to h.are_lists h.agrees)) begun)
    (known_by a) (none_means_taken a h)

pub lone_put_used : (a : Account) → a.shape.puts ≡ 1 → a.number < a.shape.puts → Held a a.shape.capacity → UsedAllKnown a
lone_put_used a one to h = All-weaker (λ (seen : Seen). length seen.taken + a.shape.capacity ≤ length h.lists.put) (λ (seen : Seen). length seen.taken + a.shape.capacity ≤ length a.put)
    (λ seen less. omega (arith, ap length (lone_put h.lists a one to h.are_lists h.agrees), length-completions h.lists.put, less))
    (known_by a) (refused_means_used a h)

-- With one pass of each kind, both new
module _ (shape : Shape) (puts : shape.puts ≡ 1) (takes : shape.takes ≡ 1) where
  first_goes : 0 < shape.capacity → ¬ Held (new_account shape 0) shape.capacity
  first_goes some h =
      let used : 0 + shape.capacity ≤ 0 = All-head (λ (seen : Seen). length seen.taken + shape.capacity ≤ 0) (record { put = []; taken = [] }) [] (lone_put_used (new_account shape 0) puts (omega arith) h) in
      omega arith

  module _ (p : Account) (c : Outcome) (put_is : IsPut (new_account shape 0) p c) where
    abbrev told : Seen
    told = record { put = p.seen_put; taken = p.seen_taken }

    abbrev taker : Account
    taker = learned (new_account shape 1) (known_by p)

    told_of_it : completions p.seen_put ≡ c ∷ []
    told_of_it =
        let before = put_is.lists.put in
        let nothing : [] ≡ completions before = lone_put put_is.lists (new_account shape 0) puts (omega arith) put_is.are_lists put_is.agrees in
        let empty : before ≡ [] = nil_from_length before (omega (arith, ap length nothing, length-completions before)) in
        ap (λ (a : Account). completions a.seen_put) put_is.after_is ∙ ap (λ l. completions (l ++ entry 0 c ∷ [])) empty

    it_is_there : ¬ Held taker 0
    it_is_there h =
        let Q : Seen → Type 0 = λ seen. StartsWith [] (completions seen.put) in
        let begun : StartsWith [] (completions p.seen_put) = All-head Q told (p.told ++ []) (All-tail Q (record { put = []; taken = [] }) (told ∷ (p.told ++ [])) (lone_take_took taker takes (omega arith) (omega arith) h)) in
        omega (arith, ap length begun.1, length-append (completions p.seen_put) begun.0, ap length told_of_it)

    it_is_taken : (t : Account) (x : Outcome) → Takes taker t x → x ≡ c
    it_is_taken t x h =
        let none : [] ≡ completions h.lists.taken = lone_taken h.lists taker takes (omega arith) (omega arith) h.are_lists h.agrees in
        let begun : BeginWith h.lists told = All-head (BeginWith h.lists) told (p.told ++ []) h.agrees.told in
        let put = starts_completions h.lists.put p.seen_put begun.0 in
        let same : x ∷ h.rest ≡ c ∷ put.0 = sym h.oldest ∙ ap (λ l. l ++ h.lists.left) none ∙ sym h.are_lists.in_order ∙ put.1 ∙ ap (λ l. l ++ put.0) told_of_it in
        (cc)

pub comes_out : ComesOut
comes_out shape puts takes some = (first_goes shape puts takes some, λ p c put_is. (it_is_there shape puts takes p c put_is, it_is_taken shape puts takes p c put_is))

-- what a queue tells at a refusal, where the pass is the only one of its kind
held_of : (a : Account) (n : ℕ) → QueueHeld n (λ items. Knows a items) → Held a n
held_of a n (items, long, knows) = record { lists = knows.lists; are_lists = knows.are_lists; agrees = knows.agrees; held = ap length knows.left_is ∙ long }

pub took_all : (a : Account) (o : Option Outcome) (S : Type 0) (Q : Outcome → Type 0) → a.shape.takes ≡ 1 → a.shape.puts ≤ a.number → a.number < a.shape.puts + a.shape.takes → MatchOption o (S × QueueHeld 0 (λ items. Knows a items)) Q → IfNone o (TookAllKnown a)
took_all a None S Q one from to h = lone_take_took a one from to (held_of a 0 h.1)
took_all a (Some x) S Q one from to h = tt

pub used_all : (a : Account) (r : Result (Unit {0}) Outcome) (P : Unit {0} → Type 0) (S T : Outcome → Type 0) (n : ℕ) → n ≡ a.shape.capacity → a.shape.puts ≡ 1 → a.number < a.shape.puts → MatchResult r P (λ x. S x × T x × QueueHeld n (λ items. Knows a items)) → OnErr r (UsedAllKnown a)
used_all a (Ok u) P S T n same one to h = tt
used_all a (Err x) P S T n same one to h = lone_put_used a one to (subst (Held a) same (held_of a n h.2))
