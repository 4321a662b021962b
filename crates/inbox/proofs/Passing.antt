-- The passes that an inbox makes are its own, and as many as it made are all.
use Rattle.std.proofs.Common.{◌≡◌, ℕ, zero, suc, ◌+◌, ◌<◌, List, [], ◌∷◌, ◌++◌, map, length, refl, ap, ◌∙◌, length-append, arith}
use Rattle.std.specs.List.{All}
use Rattle.std.proofs.lemmas.List.{length-map}
use Rattle.std.proofs.lemmas.List.Elements.{All-nil, All-push, All-head}
use Rattle.inbox.specs.declared.account.Account.{Account}
use Rattle.inbox.specs.Seats.{new_account}
use Rattle.inbox.specs.Views.{InboxView, PassView, IsOf, AreAll, new_passes}

pub new_passes_are_of : (inbox : InboxView) (n count : ℕ) → All (IsOf inbox) (new_passes inbox n count)
new_passes_are_of inbox n zero = All-nil (IsOf inbox)
new_passes_are_of inbox n (suc count) = All-push (IsOf inbox) (new_passes inbox n count) (record { queue = inbox.queue; account = new_account inbox.shape (n + count) }) (new_passes_are_of inbox n count) (record { queue = refl; shape = refl })

-- the first of them took in all others
pub all_taken_in : (inbox : InboxView) (a : Account) (back : List Account) (puts takes : List PassView) → 0 < length puts → All (IsOf inbox) puts → AreAll inbox.shape puts takes → a ∷ back ≡ map (λ p. p.account) (puts ++ takes)
    → (a.shape ≡ inbox.shape) × (length back + 1 ≡ inbox.shape.puts + inbox.shape.takes)
all_taken_in inbox a back [] takes some ours all is = absurd (omega arith)
all_taken_in inbox a back (p ∷ ps) takes some ours all is =
    let same : a ≡ p.account = (cc) in
    let first : IsOf inbox p = All-head (IsOf inbox) p ps ours in
    let long : length (map (λ (q : PassView). q.account) (ps ++ takes)) ≡ length (ps ++ takes) = simp length-map in
    (ap (λ (b : Account). b.shape) same ∙ first.shape, omega (arith, ap length is, length-append ps takes, all.puts, all.takes))
