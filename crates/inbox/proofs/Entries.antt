-- Lists of entries: the completions of one pass, and what an account says of lists that have grown.
use Rattle.std.proofs.Common.{◌≡◌, ◌≢◌, ℕ, ◌<◌, Bool, true, false, ◌==◌, if◌then◌else◌, List, [], ◌∷◌, ◌++◌, sym, refl, ap, ◌∙◌, subst, append_assoc, append-nil, eq-eqb, ne_eqb, arith}
use Rattle.std.specs.List.{All}
use Rattle.std.proofs.lemmas.List.{map-append}
use Rattle.std.proofs.lemmas.List.Elements.{All-head, All-tail, All-weaker}
use Rattle.ccb.specs.Completion.{Outcome}
use Rattle.inbox.specs.declared.account.Entry.{Entry}
use Rattle.inbox.specs.declared.account.Seen.{Seen}
use Rattle.inbox.specs.declared.account.Account.{Account}
use Rattle.inbox.specs.InboxLists.{InboxLists, Agrees, BeginWith, StartsWith, entry, by_pass, completions}

-- lists, by their parts
abbrev pub three : List Entry → List Entry → List Outcome → InboxLists
three put taken left = record { put = put; taken = taken; left = left }

pub by_pass-append : (n : ℕ) (xs ys : List Entry) → by_pass n (xs ++ ys) ≡ by_pass n xs ++ by_pass n ys
by_pass-append n [] ys = refl
by_pass-append n (e ∷ es) ys = let rest = by_pass-append n es ys in
    elim (e.pass == n) as (λ b. (if b then e.completion ∷ by_pass n (es ++ ys) else by_pass n (es ++ ys)) ≡ (if b then e.completion ∷ by_pass n es else by_pass n es) ++ by_pass n ys)
    [ true ↦ ap (λ l. e.completion ∷ l) rest | false ↦ rest ]

own_entry : (n : ℕ) (c : Outcome) → by_pass n (entry n c ∷ []) ≡ c ∷ []
own_entry n c = subst (λ (b : Bool). (if b then c ∷ [] else []) ≡ c ∷ []) (sym (eq-eqb n n refl)) refl

other_entry : (m n : ℕ) (c : Outcome) → m ≢ n → by_pass n (entry m c ∷ []) ≡ []
other_entry m n c apart = subst (λ (b : Bool). (if b then c ∷ [] else []) ≡ []) (sym (ne_eqb m n apart)) refl

pub by_pass-own : (n : ℕ) (es : List Entry) (cs : List Outcome) (c : Outcome) → by_pass n es ≡ cs → by_pass n (es ++ entry n c ∷ []) ≡ cs ++ c ∷ []
by_pass-own n es cs c is = by_pass-append n es (entry n c ∷ []) ∙ (λ i. is i ++ own_entry n c i)

pub by_pass-other : (m n : ℕ) (es : List Entry) (cs : List Outcome) (c : Outcome) → m ≢ n → by_pass n es ≡ cs → by_pass n (es ++ entry m c ∷ []) ≡ cs
by_pass-other m n es cs c apart is = by_pass-append n es (entry m c ∷ []) ∙ (λ i. is i ++ other_entry m n c apart i) ∙ append-nil cs

-- a pass that is still to be made has done nothing
pub by_pass-new : (n : ℕ) (es : List Entry) → All (λ e. e.pass < n) es → by_pass n es ≡ []
by_pass-new n [] below = refl
by_pass-new n (e ∷ es) below = let P : Entry → Type 0 = λ x. x.pass < n in let first : e.pass < n = All-head P e es below in let apart : e.pass ≢ n = λ same. omega arith in
    subst (λ (b : Bool). (if b then e.completion ∷ by_pass n es else by_pass n es) ≡ []) (sym (ne_eqb e.pass n apart)) (by_pass-new n es (All-tail P e es below))

pub completions-push : (es : List Entry) (n : ℕ) (c : Outcome) → completions (es ++ entry n c ∷ []) ≡ completions es ++ c ∷ []
completions-push es n c = map-append (λ (e : Entry). e.completion) es (entry n c ∷ [])

pub starts_longer : (es seen : List Entry) (e : Entry) → StartsWith es seen → StartsWith (es ++ e ∷ []) seen
starts_longer es seen e before = (before.0 ++ e ∷ [], ap (λ l. l ++ e ∷ []) before.1 ∙ append_assoc seen before.0 (e ∷ []))

pub starts_itself : (es : List Entry) → StartsWith es es
starts_itself es = ([], sym (append-nil es))

-- what was told says nothing of what is left, and stays so at a put and at a take
pub told_whatever_left : (put taken : List Entry) (left left' : List Outcome) (told : List Seen) → All (BeginWith (three put taken left)) told → All (BeginWith (three put taken left')) told
told_whatever_left put taken left left' told h = All-weaker (BeginWith (three put taken left)) (BeginWith (three put taken left')) (λ seen begun. begun) told h

pub told_after_put : (put taken : List Entry) (left left' : List Outcome) (e : Entry) (told : List Seen) → All (BeginWith (three put taken left)) told → All (BeginWith (three (put ++ e ∷ []) taken left')) told
told_after_put put taken left left' e told h = All-weaker (BeginWith (three put taken left)) (BeginWith (three (put ++ e ∷ []) taken left')) (λ seen begun. (starts_longer put seen.put e begun.0, begun.1)) told h

pub told_after_take : (put taken : List Entry) (left left' : List Outcome) (e : Entry) (told : List Seen) → All (BeginWith (three put taken left)) told → All (BeginWith (three put (taken ++ e ∷ []) left')) told
told_after_take put taken left left' e told h = All-weaker (BeginWith (three put taken left)) (BeginWith (three put (taken ++ e ∷ []) left')) (λ seen begun. (begun.0, starts_longer taken seen.taken e begun.1)) told h

-- an account says nothing of what is left
pub agrees_whatever_left : (put taken : List Entry) (left left' : List Outcome) (a : Account) → Agrees (three put taken left) a → Agrees (three put taken left') a
agrees_whatever_left put taken left left' a h = record { own_put = h.own_put; own_taken = h.own_taken; seen_put = h.seen_put; seen_taken = h.seen_taken; told = told_whatever_left put taken left left' a.told h.told }

-- another pass's put and take
pub agrees_after_put : (put taken : List Entry) (left left' : List Outcome) (m : ℕ) (c : Outcome) (a : Account) → m ≢ a.number → Agrees (three put taken left) a → Agrees (three (put ++ entry m c ∷ []) taken left') a
agrees_after_put put taken left left' m c a apart h = record {
  own_put = by_pass-other m a.number put a.put c apart h.own_put;
  own_taken = h.own_taken;
  seen_put = starts_longer put a.seen_put (entry m c) h.seen_put;
  seen_taken = h.seen_taken;
  told = told_after_put put taken left left' (entry m c) a.told h.told;
}

pub agrees_after_take : (put taken : List Entry) (left left' : List Outcome) (m : ℕ) (c : Outcome) (a : Account) → m ≢ a.number → Agrees (three put taken left) a → Agrees (three put (taken ++ entry m c ∷ []) left') a
agrees_after_take put taken left left' m c a apart h = record {
  own_put = h.own_put;
  own_taken = by_pass-other m a.number taken a.taken c apart h.own_taken;
  seen_put = h.seen_put;
  seen_taken = starts_longer taken a.seen_taken (entry m c) h.seen_taken;
  told = told_after_take put taken left left' (entry m c) a.told h.told;
}
