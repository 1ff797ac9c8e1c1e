use Rattle.std.proofs.Common.{◌≡◌, refl, ◌∙◌, Bool, true, false, ◌&&◌, List, [], ◌∷◌, rules}
use Rattle.std.specs.List.{fold, list_all}
use Rattle.std.proofs.lemmas.Iterator.{YieldsList-from_slice}
use Rattle.std.proofs.lemmas.Iterator.Consumers.{fold_from_yields_List}
use Rattle.tracks_calls.specs.TrackCalls.{inside_size, all_inside}
use Rattle.tracks_calls.proofs.rows.all_inside.Goals as goal

-- that all passed so far and the rest does, one after the other
folded : {X : Type 0} (p : X → Bool) (b : Bool) (xs : List X) → fold (λ ok x. ok && p x) b xs ≡ b && list_all p xs
folded p true [] = refl
folded p false [] = refl
folded p true (x ∷ xs) = folded p (p x) xs
folded p false (x ∷ xs) = folded p false xs

pub returns : goal.returns
unfolding all_inside
returns c = fold_from_yields_List _ (λ ok x. ok && inside_size x) true _ c.fold.ensures.ran (YieldsList-from_slice c.args.points.now cc) (λ a x b q k. search rules) ∙ folded inside_size true c.args.points.now
