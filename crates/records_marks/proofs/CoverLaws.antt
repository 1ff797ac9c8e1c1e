-- `CoveredIs` by the four tests of each mark.
use Prim.Native.Nat.{ℕ}
use mathlib.Core.Path.{◌≡◌, refl}
use mathlib.Core.Bool.{Bool, true, false, cond, ◌&&◌}
use mathlib.Core.List.{[], ◌∷◌}
use lib.ListN.{length}
use lib.Dec.{eqb}
use lib.Ieee.{Float, eq, le, lt}
use lib.Ieee.Bits.{is_true}
use borrow.Author.Tests.{eqb-true, eq-eqb}
use Rattle.std.proofs.Common.{Some, None, Less, Equal, Greater}
use Rattle.std.proofs.lemmas.Float.{T_from_true}
use Rattle.std.specs.Ordering.{is_lt, is_some_and, partial_lt, float_partial_cmp}
use Rattle.float_laws.specs.Binary64.{◌⊖◌}
use Rattle.records_lent.specs.Lists.{any_below}
use Rattle.records_lent.proofs.TestLaws.{chain-at}
use Rattle.records_lent.proofs.TableLaws.{any_at, any_found}
use Rattle.records.specs.declared.points.Mark.{Mark}
use Rattle.records.specs.Roads.{Road, section_of, mark_at}
use Rattle.records_marks.specs.Covers.{paints, covered, Covering, CoveredIs}

less : (a b c : Bool) → is_some_and is_lt (cond a (Some Less) (cond b (Some Equal) (cond c (Some Greater) None))) ≡ a
less true b c = refl
less false true c = refl
less false false true = refl
less false false false = refl

-- what `<` says of floats, by the tests that `partial_cmp` makes one after the other
pub lt_is : (x y : Float) → partial_lt float_partial_cmp x y ≡ lt x y
lt_is x y = less (lt x y) (eq x y) (lt y x)

four : {a b c d : Bool} → a ≡ true → b ≡ true → c ≡ true → d ≡ true → a && b && (c && d) ≡ true
four e f g h = rw (e, f, g, h)

module _ (road : Road) (i lane kind : ℕ) (s : Float) where
  abbrev m : ℕ → Mark
  m j = mark_at road i j

  abbrev d : Float
  d = s ⊖ (section_of road i).start

  to : covered road i lane kind s ≡ true → Covering road i lane kind s
  unfolding covered
  to e =
      let x = any_found (λ j. paints (m j) lane kind d) (length (section_of road i).marks) e in
      let j : ℕ = x.0 in
      let t = chain-at (eqb (m j).lane lane) (eqb (m j).kind kind ∷ (le (m j).start d && lt d (m j).end) ∷ []) x.2 in
      let r = chain-at (le (m j).start d) (lt d (m j).end ∷ []) (t 2) in
      record { j = j; there = x.1; on = eqb-true (m j).lane lane (t 0); of = eqb-true (m j).kind kind (t 1); from = T_from_true _ (r 0); below = T_from_true _ (r 1) }

  from : Covering road i lane kind s → covered road i lane kind s ≡ true
  unfolding covered
  from c =
      let j : ℕ = c.j in
      any_at (λ j. paints (m j) lane kind d) j (length (section_of road i).marks) c.there
      (four (eq-eqb (m j).lane lane c.on) (eq-eqb (m j).kind kind c.of) (is_true (le (m j).start d) c.from) (is_true (lt d (m j).end) c.below))

pub covered-is : CoveredIs
covered-is road i lane kind s = (to road i lane kind s, from road i lane kind s)
