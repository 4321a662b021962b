-- The lemmas of std by which a loop counts how many bytes pass a test from the front on.
use Rattle.std.proofs.lemmas.List.Sums.{prefix_len-drop_yes, prefix_len-drop_no, prefix_len-drop_all}

pub ruleset counting = (prefix_len-drop_yes, prefix_len-drop_no, prefix_len-drop_all)
