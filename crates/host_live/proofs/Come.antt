-- How the reading of lines goes on.
use Rattle.std.proofs.Common.{inr, ◌≡◌, ◌∙◌, ◌≤◌, ◌+◌, ◌&&◌, ℕ, Bool, true, false, Option, Some, None, List, [], ◌∷◌, ◌++◌, length, take, drop, refl, sym, ap, subst, append_assoc, append-nil, length-drop, arith}
use Rattle.std.specs.Prelude.{◌≢◌, IfSome}
use Rattle.std.specs.List.{list_all}
use Rattle.std.proofs.lemmas.List.{drop-drop, drop_all, take-append-drop}
use Rattle.std.proofs.lemmas.List.Folds.{list_all-append}
use Rattle.host_live.specs.Drafts.{IsDraftOf}
use Rattle.host_live.specs.Inputs.{CameState, Comes, all_of}
use Rattle.host_live.specs.LinesCome.{IsAll, IsOneLine, IsOver, IsTaken, Stands, TellsCut, TellsLine, is_in_line}
use Rattle.host_live.specs.declared.input.Came.TheVariants as came
use Rattle.host_live.specs.declared.lines.Lines.{Lines}

clash : {A : Type 0} (b : Bool) → b ≡ false → b ≡ true → A
clash b is other = absurd (let bad : false ≡ true = sym is ∙ other in cc)

one_line_both : (xs ys : List ℕ) → IsOneLine xs → IsOneLine ys → IsOneLine (xs ++ ys)
one_line_both xs ys first second = list_all-append is_in_line xs ys ∙ (ap (λ (b : Bool). b && list_all is_in_line ys) first ∙ second)

regroup : (t l f r : List ℕ) → t ++ (l ++ (f ++ 10 ∷ r)) ≡ (t ++ ((l ++ f) ++ 10 ∷ [])) ++ r
regroup t l f r = sym (append_assoc t ((l ++ f) ++ 10 ∷ []) r ∙ ap (λ (x : List ℕ). t ++ x) (append_assoc (l ++ f) (10 ∷ []) r ∙ append_assoc l f (10 ∷ r)))

module _ (base : List ℕ) (old new : Lines) (told : List ℕ) where
  -- a line feed was found
  found_is : (came : Option CameState) (stands : Stands base came old told) (rest : List ℕ) (place : ℕ) → new.taken ≡ old.taken + place + 1 → IfSome came (λ known. rest ≡ drop old.taken known.piece)
      → drop place rest ≡ 10 ∷ drop (place + 1) rest
      → IfSome came (λ known. all_of known ≡ base ++ ((told ++ ((stands.line ++ take place rest) ++ 10 ∷ [])) ++ ([] ++ drop new.taken known.piece)))
  found_is None stands rest place taken left feed = tt
  found_is (Some known) stands rest place taken left feed =
      let parts : drop old.taken known.piece ≡ take place rest ++ 10 ∷ drop (place + 1) rest = sym left ∙ (sym (take-append-drop place rest) ∙ ap (λ (t : List ℕ). take place rest ++ t) feed) in
      let ahead : old.taken + (place + 1) ≡ new.taken = omega (arith, taken) in
      let behind : drop (place + 1) rest ≡ drop new.taken known.piece = ap (drop (place + 1)) left ∙ (drop-drop (place + 1) old.taken known.piece ∙ ap (λ (n : ℕ). drop n known.piece) ahead) in
      let whole : told ++ (stands.line ++ drop old.taken known.piece) ≡ (told ++ ((stands.line ++ take place rest) ++ 10 ∷ [])) ++ drop new.taken known.piece =
      ap (λ (t : List ℕ). told ++ (stands.line ++ t)) parts ∙ (regroup told stands.line (take place rest) (drop (place + 1) rest) ∙ ap (λ (t : List ℕ). (told ++ ((stands.line ++ take place rest) ++ 10 ∷ [])) ++ t) behind) in
      stands.is ∙ ap (λ (t : List ℕ). base ++ t) whole

  pub found : (came : Option CameState) (rest : List ℕ) (place : ℕ) → old.is_ended ≡ false → old.is_told ≡ false → new.taken ≡ old.taken + place + 1 → new.is_told ≡ true → new.is_ended ≡ false
      → IfSome came (λ known. rest ≡ drop old.taken known.piece) → IsOneLine (take place rest) → drop place rest ≡ 10 ∷ drop (place + 1) rest
      → ((line : List ℕ) → IsDraftOf line old.draft → IsDraftOf (line ++ take place rest) new.draft) → Stands base came old told → TellsLine base came new told
  found came rest place not_over untold taken is_told going left one feed add stands = record {
    line = stands.line ++ take place rest;
    one_line = one_line_both stands.line (take place rest) stands.one_line one;
    kept = add stands.line (stands.kept untold);
    is_told = is_told;
    going = going;
    begins = stands.whole not_over;
    stands = record {
      line = [];
      one_line = refl;
      kept = λ un. clash new.is_told un is_told;
      anew = λ yes_told. refl;
      ended = λ over. clash new.is_ended going over;
      whole = λ yes_going. inr (told ++ (stands.line ++ take place rest), sym (append_assoc told (stands.line ++ take place rest) (10 ∷ [])));
      is = found_is came stands rest place taken left feed;
    };
  }

  -- none was
  pub all_taken : (came : Option CameState) (rest : List ℕ) → new.taken ≡ old.taken + length rest → IfSome came (λ known. rest ≡ drop old.taken known.piece) → IsTaken came new
  all_taken None rest taken left = tt
  all_taken (Some known) rest taken left = omega (arith, taken, ap length left, length-drop old.taken known.piece)

  none_is : (came : Option CameState) (stands : Stands base came old told) (rest : List ℕ) → IsTaken came new → IfSome came (λ known. rest ≡ drop old.taken known.piece)
      → IfSome came (λ known. all_of known ≡ base ++ (told ++ ((stands.line ++ rest) ++ drop new.taken known.piece)))
  none_is None stands rest taken left = tt
  none_is (Some known) stands rest taken left =
      let nothing : drop new.taken known.piece ≡ [] = drop_all new.taken known.piece taken in
      stands.is ∙ ap (λ (t : List ℕ). base ++ (told ++ t)) (ap (λ (t : List ℕ). stands.line ++ t) (sym left) ∙ (sym (append-nil (stands.line ++ rest)) ∙ ap (λ (t : List ℕ). (stands.line ++ rest) ++ t) (sym nothing)))

  pub not_found : (came : Option CameState) (rest : List ℕ) → old.is_ended ≡ false → old.is_told ≡ false → new.taken ≡ old.taken + length rest → new.is_told ≡ false → new.is_ended ≡ false
      → IfSome came (λ known. rest ≡ drop old.taken known.piece) → IsOneLine rest
      → ((line : List ℕ) → IsDraftOf line old.draft → IsDraftOf (line ++ rest) new.draft) → Stands base came old told → Stands base came new told
  not_found came rest not_over untold taken still going left one add stands = record {
    line = stands.line ++ rest;
    one_line = one_line_both stands.line rest stands.one_line one;
    kept = λ un. add stands.line (stands.kept untold);
    anew = λ yes_told. clash new.is_told still yes_told;
    ended = λ over. clash new.is_ended going over;
    whole = λ yes_going. stands.whole not_over;
    is = none_is came stands rest (all_taken came rest taken left) left;
  }

  -- the line that was told is let go
  pub let_go : (came : Option CameState) → old.is_ended ≡ false → new.taken ≡ old.taken → new.is_ended ≡ false → new.is_told ≡ false → new.draft ≡ record { bytes = []; is_long = false } → old.is_told ≡ true → Stands base came old told → Stands base came new told
  let_go came not_over taken going untold none is_told stands = record {
    line = stands.line;
    one_line = stands.one_line;
    kept = λ un. subst (λ (l : List ℕ). IsDraftOf l new.draft) (sym (stands.anew is_told)) (subst (IsDraftOf []) (sym none) refl);
    anew = λ yes_told. clash new.is_told untold yes_told;
    ended = λ over. clash new.is_ended going over;
    whole = λ yes_going. stands.whole not_over;
    is = subst (λ (n : ℕ). IfSome came (λ known. all_of known ≡ base ++ (told ++ (stands.line ++ drop n known.piece)))) (sym taken) stands.is;
  }

  -- a piece more came
  more_is : (before after : Option CameState) (stands : Stands base before old told) → Comes before came.Bytes after → IsTaken before old → new.taken ≡ 0
      → IfSome after (λ known. all_of known ≡ base ++ (told ++ (stands.line ++ drop new.taken known.piece)))
  more_is None after stands comes taken none = subst (λ (a : Option CameState). IfSome a (λ known. all_of known ≡ base ++ (told ++ (stands.line ++ drop new.taken known.piece)))) (sym comes) tt
  more_is (Some known) after stands comes taken none =
      let nothing : drop old.taken known.piece ≡ [] = drop_all old.taken known.piece taken in
      let before : all_of known ≡ base ++ (told ++ stands.line) = stands.is ∙ ap (λ (t : List ℕ). base ++ (told ++ t)) (ap (λ (t : List ℕ). stands.line ++ t) nothing ∙ append-nil stands.line) in
      let whole : all_of known ++ comes.0 ≡ base ++ (told ++ (stands.line ++ comes.0)) =
      ap (λ (t : List ℕ). t ++ comes.0) before ∙ (append_assoc base (told ++ stands.line) comes.0 ∙ ap (λ (t : List ℕ). base ++ t) (append_assoc told stands.line comes.0)) in
      subst (λ (a : Option CameState). IfSome a (λ known. all_of known ≡ base ++ (told ++ (stands.line ++ drop new.taken known.piece)))) (sym comes.1)
      (subst (λ (n : ℕ). all_of known ++ comes.0 ≡ base ++ (told ++ (stands.line ++ drop n comes.0))) (sym none) whole)

  pub more_came : (before after : Option CameState) → old.is_ended ≡ false → Comes before came.Bytes after → IsTaken before old → new.taken ≡ 0 → new.draft ≡ old.draft → old.is_told ≡ false → new.is_told ≡ false → new.is_ended ≡ false
      → Stands base before old told → Stands base after new told
  more_came before after not_over comes taken none draft untold still going stands = record {
    line = stands.line;
    one_line = stands.one_line;
    kept = λ un. subst (IsDraftOf stands.line) (sym draft) (stands.kept untold);
    anew = λ yes_told. clash new.is_told still yes_told;
    ended = λ over. clash new.is_ended going over;
    whole = λ yes_going. stands.whole not_over;
    is = more_is before after stands comes taken none;
  }

  -- the input is at its end, and no line is begun
  pub ended_here : (came : Option CameState) → new.taken ≡ old.taken → new.draft ≡ old.draft → new.is_told ≡ old.is_told → new.is_ended ≡ true → (stands : Stands base came old told) → stands.line ≡ [] → IsTaken came new → IsOver came → Stands base came new told
  ended_here came taken draft told_so over stands none all at_end = record {
    line = stands.line;
    one_line = stands.one_line;
    kept = λ un. subst (IsDraftOf stands.line) (sym draft) (stands.kept (sym told_so ∙ un));
    anew = λ yes_told. none;
    ended = λ yes_over. (none, all, at_end);
    whole = λ going. clash new.is_ended going over;
    is = subst (λ (n : ℕ). IfSome came (λ known. all_of known ≡ base ++ (told ++ (stands.line ++ drop n known.piece)))) (sym taken) stands.is;
  }

  -- or the line that is begun is cut off there
  cut_is : (came : Option CameState) (stands : Stands base came old told) → new.taken ≡ old.taken → IfSome came (λ known. all_of known ≡ base ++ ((told ++ stands.line) ++ ([] ++ drop new.taken known.piece)))
  cut_is None stands taken = tt
  cut_is (Some known) stands taken =
      stands.is ∙ ap (λ (t : List ℕ). base ++ t) (sym (append_assoc told stands.line (drop old.taken known.piece)) ∙ ap (λ (n : ℕ). (told ++ stands.line) ++ drop n known.piece) (sym taken))

  pub cut_here : (came : Option CameState) → old.is_ended ≡ false → new.taken ≡ old.taken → new.is_told ≡ true → new.is_ended ≡ true → (stands : Stands base came old told) → stands.line ≢ [] → IsTaken came new → IsOver came → TellsCut base came new told
  cut_here came not_over taken is_told over stands some all at_end = record {
    line = stands.line;
    one_line = stands.one_line;
    some = some;
    is_ended = over;
    begins = stands.whole not_over;
    stands = record {
      line = [];
      one_line = refl;
      kept = λ un. clash new.is_told un is_told;
      anew = λ yes_told. refl;
      ended = λ yes_over. (refl, all, at_end);
      whole = λ going. clash new.is_ended going over;
      is = cut_is came stands taken;
    };
  }

-- all of the piece is taken
pub all_at : (came : Option CameState) (rest : List ℕ) (taken : ℕ) → IfSome came (λ known. rest ≡ drop taken known.piece) → IfSome came (λ known. length known.piece ≤ taken + length rest)
all_at None rest taken left = tt
all_at (Some known) rest taken left = omega (arith, ap length left, length-drop taken known.piece)

-- what is got of the piece, where that is known
pub got : (known : Option CameState) (bytes rest : List ℕ) (taken : ℕ) → IfSome known (λ k. bytes ≡ k.piece) → rest ≡ drop taken bytes → IfSome known (λ k. rest ≡ drop taken k.piece)
got None bytes rest taken is left = tt
got (Some k) bytes rest taken is left = left ∙ ap (drop taken) is

-- the input says that it is at its end
pub is_over : (before after : Option CameState) → Comes before came.End after → IsOver after
is_over None after comes = subst IsOver (sym comes) tt
is_over (Some known) after comes = subst IsOver (sym comes) refl

pub taken_over : (before after : Option CameState) (lines : Lines) → Comes before came.End after → IsTaken before lines → IsTaken after lines
taken_over None after lines comes taken = subst (λ (c : Option CameState). IsTaken c lines) (sym comes) tt
taken_over (Some known) after lines comes taken = subst (λ (c : Option CameState). IsTaken c lines) (sym comes) taken

stands_over_at : (base told line : List ℕ) (taken : ℕ) (before after : Option CameState) → Comes before came.End after → IfSome before (λ known. all_of known ≡ base ++ (told ++ (line ++ drop taken known.piece)))
    → IfSome after (λ known. all_of known ≡ base ++ (told ++ (line ++ drop taken known.piece)))
stands_over_at base told line taken None after comes is = subst (λ (c : Option CameState). IfSome c (λ known. all_of known ≡ base ++ (told ++ (line ++ drop taken known.piece)))) (sym comes) tt
stands_over_at base told line taken (Some known) after comes is = subst (λ (c : Option CameState). IfSome c (λ known. all_of known ≡ base ++ (told ++ (line ++ drop taken known.piece)))) (sym comes) is

-- what came stands as it did
pub stands_over : (base told : List ℕ) (lines : Lines) (before after : Option CameState) → lines.is_ended ≡ false → Comes before came.End after → Stands base before lines told → Stands base after lines told
stands_over base told lines before after going comes stands = record {
  line = stands.line;
  one_line = stands.one_line;
  kept = stands.kept;
  anew = stands.anew;
  ended = λ over. clash lines.is_ended going over;
  whole = stands.whole;
  is = stands_over_at base told stands.line lines.taken before after comes stands.is;
}

-- nothing is left of a piece that was taken
all_told : (base told line : List ℕ) (lines : Lines) (came : Option CameState) → IsTaken came lines → IsOver came → IfSome came (λ known. all_of known ≡ base ++ (told ++ (line ++ drop lines.taken known.piece))) → IsAll base came (told ++ line)
all_told base told line lines None taken over is = tt
all_told base told line lines (Some known) taken over is =
    (over, is ∙ ap (λ (t : List ℕ). base ++ (told ++ t)) (ap (λ (t : List ℕ). line ++ t) (drop_all lines.taken known.piece taken) ∙ append-nil line))

-- no line is begun at the end of the input
pub over_at_line : (base told : List ℕ) (lines : Lines) (came : Option CameState) (stands : Stands base came lines told) → stands.line ≡ [] → IsTaken came lines → IsOver came → IsAll base came told
over_at_line base told lines came stands none taken over =
    subst (λ (t : List ℕ). IsAll base came t) (ap (λ (l : List ℕ). told ++ l) none ∙ append-nil told) (all_told base told stands.line lines came taken over stands.is)
