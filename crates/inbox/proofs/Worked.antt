-- Worked values of the definitions.
use Rattle.std.proofs.Common.{◌≡◌, [], ◌∷◌, refl}
use Rattle.ccb.specs.Completion.{Outcome}
use Rattle.inbox.specs.declared.account.Seen.{Seen}
use Rattle.inbox.specs.declared.account.Shape.{Shape}
use Rattle.inbox.specs.InboxLists.{entry, by_pass, completions, known_by, learned}
use Rattle.inbox.specs.Seats.{new_account}
use Rattle.inbox.specs.Views.{InboxView, new_passes}

of_one_pass : (a b c : Outcome) → by_pass 1 (entry 1 a ∷ entry 0 b ∷ entry 1 c ∷ []) ≡ a ∷ c ∷ []
of_one_pass a b c = refl

of_no_pass : (a b : Outcome) → by_pass 2 (entry 1 a ∷ entry 0 b ∷ []) ≡ []
of_no_pass a b = refl

of_all : (a b : Outcome) → completions (entry 1 a ∷ entry 0 b ∷ []) ≡ a ∷ b ∷ []
of_all a b = refl

two_take_passes : (inbox : InboxView) → new_passes inbox 3 2 ≡ record { queue = inbox.queue; account = new_account inbox.shape 3 } ∷ record { queue = inbox.queue; account = new_account inbox.shape 4 } ∷ []
two_take_passes inbox = refl

told_of : (shape : Shape) (seen : Seen) → known_by (learned (new_account shape 1) (seen ∷ [])) ≡ record { put = []; taken = [] } ∷ seen ∷ []
told_of shape seen = refl
