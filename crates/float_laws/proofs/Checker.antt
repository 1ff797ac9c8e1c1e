-- A checker by computation. `Ex` is straight-line float code; `eval` is its value, by the operations of `lib.Ieee`; `ival` computes an interval for it, with values of the format as ends.
-- `sound`: a value lies in its interval, and is finite, wherever `ival` gives one. `check` is a Bool: where it computes to true, the fact is proved. `bisect` cuts one variable's interval as often as is needed.
-- Assumes nothing.
use mathlib.Core.List.{List, [], ◌∷◌}
use Prim.Native.Nat.{ℕ, zero, suc}
use mathlib.Core.Bool.{Bool, true, false, not, ◌&&◌, cond}
use mathlib.Core.Logic.{◌⊎◌, inl, inr}
use lib.IntN.{negsuc}
use lib.Dec.{T}
use native.Mathlib.Omega.{arith}
use lib.Ieee.{Float, nan, fin, Format, lt, le, neg, add, sub, mul, div, fits}
use lib.Ieee.Fits.{and_l, and_r}
use lib.Ieee.Scale.{finite}
use Rattle.std.proofs.lemmas.Float.{le_trans as float_trans}
use Rattle.float_laws.proofs.Value.{Real, le_refl, nle→le, le→units, lt→units, nlt→units}
use Rattle.float_laws.proofs.Interval.{In, least, most, least-is, most-is, nil, sq-low, add-in, sub_in, neg-in, mul_in, sq-in, div-in}

-- ---- code. `pick a b c d` is `if a < b { c } else { d }`. `bind e b` is `let x = e; b`, with x as variable 0 of b and the others one up
pub data Ex : Type 0 where
  var : ℕ → Ex
  con : Float → Ex
  plus minus times over : Ex → Ex → Ex
  square opp : Ex → Ex
  pick : Ex → Ex → Ex → Ex → Ex
  bind : Ex → Ex → Ex

-- variable n of the list; a NaN past its end, which no interval holds
abbrev pub get : List Float → ℕ → Float
get [] n = nan
get (x ∷ ρ) zero = x
get (x ∷ ρ) (suc n) = get ρ n

-- the value, by the operations that code has
unfoldable pub eval : Format → List Float → Ex → Float
eval f ρ (var n) = get ρ n
eval f ρ (con c) = c
eval f ρ (plus a b) = add f (eval f ρ a) (eval f ρ b)
eval f ρ (minus a b) = sub f (eval f ρ a) (eval f ρ b)
eval f ρ (times a b) = mul f (eval f ρ a) (eval f ρ b)
eval f ρ (over a b) = div f (eval f ρ a) (eval f ρ b)
eval f ρ (square a) = mul f (eval f ρ a) (eval f ρ a)
eval f ρ (opp a) = neg (eval f ρ a)
eval f ρ (pick a b c d) = cond (lt (eval f ρ a) (eval f ρ b)) (eval f ρ c) (eval f ρ d)
eval f ρ (bind a b) = eval f (eval f ρ a ∷ ρ) b

-- ---- intervals; `bad` says nothing
pub data Iv : Type 0 where
  bad : Iv
  iv : Float → Float → Iv

-- x lies in the interval; of `bad` this says nothing, so that soundness needs no side condition
abbrev pub Holds : Format → Iv → Float → Type 0
Holds f bad x = Unit {0}
Holds f (iv lo hi) x = In f lo hi x

-- a test for `Real`
abbrev pub good : Format → Float → Bool
good f x = finite x && fits f x

-- each operation on intervals: the operation itself at the ends, and `bad` where an end is not finite
unfoldable pub add_i : Format → Iv → Iv → Iv
add_i f bad j = bad
add_i f (iv a b) bad = bad
add_i f (iv a b) (iv c d) = let l = add f a c in let h = add f b d in cond (finite l && finite h) (iv l h) bad

unfoldable pub sub_i : Format → Iv → Iv → Iv
sub_i f bad j = bad
sub_i f (iv a b) bad = bad
sub_i f (iv a b) (iv c d) = let l = sub f a d in let h = sub f b c in cond (finite l && finite h) (iv l h) bad

unfoldable pub mul_i : Format → Iv → Iv → Iv
mul_i f bad j = bad
mul_i f (iv a b) bad = bad
mul_i f (iv a b) (iv c d) =
    let p = mul f a c in
    let q = mul f a d in
    let r = mul f b c in
    let s = mul f b d in
    cond ((finite p && finite q) && (finite r && finite s)) (iv (least (least p q) (least r s)) (most (most p q) (most r s))) bad

unfoldable pub div_i : Format → Iv → Iv → Iv
div_i f bad j = bad
div_i f (iv a b) bad = bad
div_i f (iv a b) (iv c d) =
    let p = div f a c in
    let q = div f a d in
    let r = div f b c in
    let s = div f b d in
    cond (not (le c nil) && ((finite p && finite q) && (finite r && finite s))) (iv (least p q) (most r s)) bad

unfoldable pub sq_i : Format → Iv → Iv
sq_i f bad = bad
sq_i f (iv a b) = let p = mul f a a in let q = mul f b b in cond (finite p && finite q) (iv (sq-low f a b) (most p q)) bad

unfoldable pub neg_i : Iv → Iv
neg_i bad = bad
neg_i (iv a b) = iv (neg b) (neg a)

-- both intervals in one
unfoldable pub hull : Iv → Iv → Iv
hull bad j = bad
hull (iv a b) bad = bad
hull (iv a b) (iv c d) = iv (least a c) (most b d)

-- i where the test x < y is sure to pass, j where it is sure to fail
unfoldable pub pick_i : Iv → Iv → Iv → Iv → Iv
unfolding hull
pick_i bad q i j = hull i j
pick_i (iv a b) bad i j = hull i j
pick_i (iv a b) (iv c d) i j = cond (lt b c) i (cond (le d a) j (hull i j))

unfoldable pub con_i : Format → Float → Iv
con_i f c = cond (good f c) (iv c c) bad

abbrev pub at : List Iv → ℕ → Iv
at [] n = bad
at (v ∷ Γ) zero = v
at (v ∷ Γ) (suc n) = at Γ n

-- the interval of an expression whose variables lie in the intervals of the list
unfoldable pub ival : Format → List Iv → Ex → Iv
unfolding add_i sub_i mul_i div_i sq_i neg_i pick_i con_i
ival f Γ (var n) = at Γ n
ival f Γ (con c) = con_i f c
ival f Γ (plus a b) = add_i f (ival f Γ a) (ival f Γ b)
ival f Γ (minus a b) = sub_i f (ival f Γ a) (ival f Γ b)
ival f Γ (times a b) = mul_i f (ival f Γ a) (ival f Γ b)
ival f Γ (over a b) = div_i f (ival f Γ a) (ival f Γ b)
ival f Γ (square a) = sq_i f (ival f Γ a)
ival f Γ (opp a) = neg_i (ival f Γ a)
ival f Γ (pick a b c d) = pick_i (ival f Γ a) (ival f Γ b) (ival f Γ c) (ival f Γ d)
ival f Γ (bind a b) = ival f (ival f Γ a ∷ Γ) b

-- ---- each operation's interval holds
guard : (f : Format) (b : Bool) (lo hi x : Float) → (T b → In f lo hi x) → Holds f (cond b (iv lo hi) bad) x
guard f true lo hi x h = h tt
guard f false lo hi x h = tt

add_holds : (f : Format) (i j : Iv) (x y : Float) → Holds f i x → Holds f j y → Holds f (add_i f i j) (add f x y)
unfolding add_i
add_holds f bad j x y p q = tt
add_holds f (iv a b) bad x y p q = tt
add_holds f (iv a b) (iv c d) x y p q = guard f (finite (add f a c) && finite (add f b d)) _ _ _ (λ t. add-in f a b c d x y p q (and_l (finite (add f a c)) (finite (add f b d)) t) (and_r (finite (add f a c)) (finite (add f b d)) t))

sub_holds : (f : Format) (i j : Iv) (x y : Float) → Holds f i x → Holds f j y → Holds f (sub_i f i j) (sub f x y)
unfolding sub_i
sub_holds f bad j x y p q = tt
sub_holds f (iv a b) bad x y p q = tt
sub_holds f (iv a b) (iv c d) x y p q = guard f (finite (sub f a d) && finite (sub f b c)) _ _ _ (λ t. sub_in f a b c d x y p q (and_l (finite (sub f a d)) (finite (sub f b c)) t) (and_r (finite (sub f a d)) (finite (sub f b c)) t))

four : (p q r s : Bool) → T ((p && q) && (r && s)) → T p × T q × T r × T s
four true true true true t = (tt, tt, tt, tt)
four true true true false t = absurd t
four true true false s t = absurd t
four true false r s t = absurd t
four false q r s t = absurd t

mul_holds : (f : Format) (i j : Iv) (x y : Float) → Holds f i x → Holds f j y → Holds f (mul_i f i j) (mul f x y)
unfolding mul_i
mul_holds f bad j x y p q = tt
mul_holds f (iv a b) bad x y p q = tt
mul_holds f (iv a b) (iv c d) x y p q = guard f ((finite (mul f a c) && finite (mul f a d)) && (finite (mul f b c) && finite (mul f b d))) _ _ _ (λ t. let w = four (finite (mul f a c)) (finite (mul f a d)) (finite (mul f b c)) (finite (mul f b d)) t in mul_in f a b c d x y p q w.0 w.1 w.2 w.3)

div-holds : (f : Format) (i j : Iv) (x y : Float) → Holds f i x → Holds f j y → Holds f (div_i f i j) (div f x y)
unfolding div_i
div-holds f bad j x y p q = tt
div-holds f (iv a b) bad x y p q = tt
div-holds f (iv a b) (iv c d) x y p q =
    guard f (not (le c nil) && ((finite (div f a c) && finite (div f a d)) && (finite (div f b c) && finite (div f b d)))) _ _ _
    (λ t. let w = four (finite (div f a c)) (finite (div f a d)) (finite (div f b c)) (finite (div f b d)) (and_r (not (le c nil)) ((finite (div f a c) && finite (div f a d)) && (finite (div f b c) && finite (div f b d))) t) in div-in f a b c d x y p q (and_l (not (le c nil)) ((finite (div f a c) && finite (div f a d)) && (finite (div f b c) && finite (div f b d))) t) w.0 w.1 w.2 w.3)

sq-holds : (f : Format) (i : Iv) (x : Float) → Holds f i x → Holds f (sq_i f i) (mul f x x)
unfolding sq_i
sq-holds f bad x p = tt
sq-holds f (iv a b) x p = guard f (finite (mul f a a) && finite (mul f b b)) _ _ _ (λ t. sq-in f a b x p (and_l (finite (mul f a a)) (finite (mul f b b)) t) (and_r (finite (mul f a a)) (finite (mul f b b)) t))

neg-holds : (f : Format) (i : Iv) (x : Float) → Holds f i x → Holds f (neg_i i) (neg x)
unfolding neg_i
neg-holds f bad x p = tt
neg-holds f (iv a b) x p = neg-in f a b x p

pub good-real : (f : Format) (c : Float) → T (good f c) → Real f c
good-real f c t = record { finite = and_l (finite c) (fits f c) t; fits = and_r (finite c) (fits f c) t }

con-holds : (f : Format) (c : Float) → Holds f (con_i f c) c
unfolding con_i
con-holds f c = guard f (good f c) c c c (λ t. let r = good-real f c t in record { low = r; high = r; value = r; above = le_refl f c r; below = le_refl f c r })

either : (f : Format) (i : Iv) (c : Bool) (u v : Float) → (T c → Holds f i u) → (T (not c) → Holds f i v) → Holds f i (cond c u v)
either f i true u v p q = p tt
either f i false u v p q = q tt

hull-l : (f : Format) (i j : Iv) (u v : Float) → Holds f i u → Holds f j v → Holds f (hull i j) u
unfolding hull
hull-l f bad j u v p q = tt
hull-l f (iv a b) bad u v p q = tt
hull-l f (iv a b) (iv c d) u v p q =
    let l = least-is f a c p.low q.low in
    let m = most-is f b d p.high q.high in
    record { low = l.0; high = m.0; value = p.value; above = float_trans (least a c) a u l.1 p.above; below = float_trans u b (most b d) p.below m.1 }

hull-r : (f : Format) (i j : Iv) (u v : Float) → Holds f i u → Holds f j v → Holds f (hull i j) v
unfolding hull
hull-r f bad j u v p q = tt
hull-r f (iv a b) bad u v p q = tt
hull-r f (iv a b) (iv c d) u v p q =
    let l = least-is f a c p.low q.low in
    let m = most-is f b d p.high q.high in
    record { low = l.0; high = m.0; value = q.value; above = float_trans (least a c) c v l.2 q.above; below = float_trans v d (most b d) q.below m.2 }

-- the tests at the ends decide the test inside
sure : (f : Format) (a b c d x y : Float) → In f a b x → In f c d y → T (lt b c) → T (not (lt x y)) → ⊥
sure f a b c d x y p q h n =
    let e = lt→units f b c p.high q.low h in
    let g = nlt→units f x y p.value q.value n in
    let k = le→units f x b p.value p.high p.below in
    let l = le→units f c y q.low q.value q.above in
    omega arith

sure-not : (f : Format) (a b c d x y : Float) → In f a b x → In f c d y → T (le d a) → T (lt x y) → ⊥
sure-not f a b c d x y p q h n =
    let e = le→units f d a q.high p.low h in
    let g = lt→units f x y p.value q.value n in
    let k = le→units f a x p.low p.value p.above in
    let l = le→units f y d q.value q.high q.below in
    omega arith

pick-holds : (f : Format) (p q i j : Iv) (x y u v : Float) → Holds f p x → Holds f q y → Holds f i u → Holds f j v → Holds f (pick_i p q i j) (cond (lt x y) u v)
unfolding pick_i
pick-holds f bad q i j x y u v hx hy hu hv = either f (hull i j) (lt x y) u v (λ t. hull-l f i j u v hu hv) (λ t. hull-r f i j u v hu hv)
pick-holds f (iv a b) bad i j x y u v hx hy hu hv = either f (hull i j) (lt x y) u v (λ t. hull-l f i j u v hu hv) (λ t. hull-r f i j u v hu hv)
pick-holds f (iv a b) (iv c d) i j x y u v hx hy hu hv = go (lt b c) (λ (t : T (lt b c)). t) (le d a) (λ (t : T (le d a)). t)
  where
    go : (m : Bool) → (T m → T (lt b c)) → (n : Bool) → (T n → T (le d a)) → Holds f (cond m i (cond n j (hull i j))) (cond (lt x y) u v)
    go true h n k = either f i (lt x y) u v (λ t. hu) (λ t. absurd (sure f a b c d x y hx hy (h tt) t))
    go false h true k = either f j (lt x y) u v (λ t. absurd (sure-not f a b c d x y hx hy (k tt) t)) (λ t. hv)
    go false h false k = either f (hull i j) (lt x y) u v (λ t. hull-l f i j u v hu hv) (λ t. hull-r f i j u v hu hv)

-- ---- soundness
abbrev pub Inside : Format → List Iv → List Float → Type 0
Inside f [] ρ = Unit {0}
Inside f (v ∷ Γ) [] = ⊥
Inside f (v ∷ Γ) (x ∷ ρ) = Holds f v x × Inside f Γ ρ

at-holds : (f : Format) (Γ : List Iv) (ρ : List Float) (n : ℕ) → Inside f Γ ρ → Holds f (at Γ n) (get ρ n)
at-holds f [] ρ n h = tt
at-holds f (v ∷ Γ) [] n h = absurd h
at-holds f (v ∷ Γ) (x ∷ ρ) zero h = h.0
at-holds f (v ∷ Γ) (x ∷ ρ) (suc n) h = at-holds f Γ ρ n h.1

-- a value lies in its interval
pub sound : (f : Format) (Γ : List Iv) (ρ : List Float) (e : Ex) → Inside f Γ ρ → Holds f (ival f Γ e) (eval f ρ e)
unfolding ival eval
sound f Γ ρ (var n) h = at-holds f Γ ρ n h
sound f Γ ρ (con c) h = con-holds f c
sound f Γ ρ (plus a b) h = add_holds f (ival f Γ a) (ival f Γ b) (eval f ρ a) (eval f ρ b) (sound f Γ ρ a h) (sound f Γ ρ b h)
sound f Γ ρ (minus a b) h = sub_holds f (ival f Γ a) (ival f Γ b) (eval f ρ a) (eval f ρ b) (sound f Γ ρ a h) (sound f Γ ρ b h)
sound f Γ ρ (times a b) h = mul_holds f (ival f Γ a) (ival f Γ b) (eval f ρ a) (eval f ρ b) (sound f Γ ρ a h) (sound f Γ ρ b h)
sound f Γ ρ (over a b) h = div-holds f (ival f Γ a) (ival f Γ b) (eval f ρ a) (eval f ρ b) (sound f Γ ρ a h) (sound f Γ ρ b h)
sound f Γ ρ (square a) h = sq-holds f (ival f Γ a) (eval f ρ a) (sound f Γ ρ a h)
sound f Γ ρ (opp a) h = neg-holds f (ival f Γ a) (eval f ρ a) (sound f Γ ρ a h)
sound f Γ ρ (pick a b c d) h = pick-holds f (ival f Γ a) (ival f Γ b) (ival f Γ c) (ival f Γ d) (eval f ρ a) (eval f ρ b) (eval f ρ c) (eval f ρ d) (sound f Γ ρ a h) (sound f Γ ρ b h) (sound f Γ ρ c h) (sound f Γ ρ d h)
sound f Γ ρ (bind a b) h = sound f (ival f Γ a ∷ Γ) (eval f ρ a ∷ ρ) b (sound f Γ ρ a h, h)

-- ---- a test
unfoldable pub covers : Format → Float → Float → Iv → Bool
covers f lo hi bad = false
covers f lo hi (iv a b) = le lo a && le b hi

-- an interval that [lo, hi] covers
pub widen : (f : Format) (lo hi x : Float) (i : Iv) → Real f lo → Real f hi → T (covers f lo hi i) → Holds f i x → In f lo hi x
unfolding covers
widen f lo hi x bad l h t p = absurd t
widen f lo hi x (iv a b) l h t p = record {
  low = l;
  high = h;
  value = p.value;
  above = float_trans lo a x (and_l (le lo a) (le b hi) t) p.above;
  below = float_trans x b hi p.below (and_r (le lo a) (le b hi) t);
}

-- the interval of e lies in [lo, hi]
unfoldable pub check : Format → List Iv → Ex → Float → Float → Bool
unfolding ival covers
check f Γ e lo hi = covers f lo hi (ival f Γ e)

-- where the variables lie in Γ, the value lies in [lo, hi]
pub checked : (f : Format) (Γ : List Iv) (ρ : List Float) (e : Ex) (lo hi : Float) → Real f lo → Real f hi → T (check f Γ e lo hi) → Inside f Γ ρ → In f lo hi (eval f ρ e)
unfolding check
checked f Γ ρ e lo hi l h t p = widen f lo hi (eval f ρ e) (ival f Γ e) l h t (sound f Γ ρ e p)

-- ---- variable 0 in [a, b], cut in the middle up to n times wherever the test fails on the whole
unfoldable pub middle : Format → Float → Float → Float
middle f a b = mul f (add f a b) (fin false 1 (negsuc 0))

unfoldable pub bisect : Format → ℕ → Float → Float → List Iv → Ex → Float → Float → Bool
unfolding check middle
bisect f zero a b Γ e lo hi = check f (iv a b ∷ Γ) e lo hi
bisect f (suc n) a b Γ e lo hi =
    elim (check f (iv a b ∷ Γ) e lo hi) [
      | true ↦ true
      | false ↦ let m = middle f a b in good f m && (bisect f n a m Γ e lo hi && bisect f n m b Γ e lo hi)
    ]

-- what a bisection that computes to true proves
pub bisected : (f : Format) (n : ℕ) (a b : Float) (Γ : List Iv) (e : Ex) (lo hi x : Float) (ρ : List Float) → Real f lo → Real f hi → T (bisect f n a b Γ e lo hi) → In f a b x → Inside f Γ ρ → In f lo hi (eval f (x ∷ ρ) e)
unfolding bisect
bisected f zero a b Γ e lo hi x ρ l h t i p = checked f (iv a b ∷ Γ) (x ∷ ρ) e lo hi l h t (i, p)
bisected f (suc n) a b Γ e lo hi x ρ l h t i p =
    go (check f (iv a b ∷ Γ) e lo hi) (λ (u : T (check f (iv a b ∷ Γ) e lo hi)). u) t (bisected f n a (middle f a b) Γ e lo hi x ρ l h) (bisected f n (middle f a b) b Γ e lo hi x ρ l h)
  where
    m : Float
    m = middle f a b

    half : Real f m → T (bisect f n a m Γ e lo hi) → T (bisect f n m b Γ e lo hi) → (T (bisect f n a m Γ e lo hi) → In f a m x → Inside f Γ ρ → In f lo hi (eval f (x ∷ ρ) e)) → (T (bisect f n m b Γ e lo hi) → In f m b x → Inside f Γ ρ → In f lo hi (eval f (x ∷ ρ) e)) → (c : Bool) → (T c → T (le x m)) → (T (not c) → T (le m x)) → In f lo hi (eval f (x ∷ ρ) e)
    half r t1 t2 k1 k2 true u v = k1 t1 (record { low = i.low; high = r; value = i.value; above = i.above; below = u tt }) p
    half r t1 t2 k1 k2 false u v = k2 t2 (record { low = r; high = i.high; value = i.value; above = v tt; below = i.below }) p

    go : (c : Bool) → (T c → T (check f (iv a b ∷ Γ) e lo hi)) → T (elim c as (λ _. Bool) [ true ↦ true | false ↦ good f m && (bisect f n a m Γ e lo hi && bisect f n m b Γ e lo hi) ])
        → (T (bisect f n a m Γ e lo hi) → In f a m x → Inside f Γ ρ → In f lo hi (eval f (x ∷ ρ) e)) → (T (bisect f n m b Γ e lo hi) → In f m b x → Inside f Γ ρ → In f lo hi (eval f (x ∷ ρ) e)) → In f lo hi (eval f (x ∷ ρ) e)
    go true u t k1 k2 = checked f (iv a b ∷ Γ) (x ∷ ρ) e lo hi l h (u tt) (i, p)
    go false u t k1 k2 =
        let r = good-real f m (and_l (good f m) (bisect f n a m Γ e lo hi && bisect f n m b Γ e lo hi) t) in
        let w = and_r (good f m) (bisect f n a m Γ e lo hi && bisect f n m b Γ e lo hi) t in
        half r (and_l (bisect f n a m Γ e lo hi) (bisect f n m b Γ e lo hi) w) (and_r (bisect f n a m Γ e lo hi) (bisect f n m b Γ e lo hi) w) k1 k2 (le x m) (λ (z : T (le x m)). z) (nle→le f x m i.value r)

-- ---- several variables: the box Γ is cut at the variables of the list, one after another, wherever the test fails on the whole

-- a box, left whole or cut in two
pub data Cut : Type 0 where
  uncut : Cut
  cut : List Iv → List Iv → Cut

-- the box, cut in the middle of its variable n
unfoldable pub halves : Format → List Iv → ℕ → Cut
unfolding middle
halves f [] n = uncut
halves f (bad ∷ Γ) zero = uncut
halves f (iv a b ∷ Γ) zero = let m = middle f a b in cond (good f m) (cut (iv a m ∷ Γ) (iv m b ∷ Γ)) uncut
halves f (v ∷ Γ) (suc n) = elim (halves f Γ n) [ uncut ↦ uncut | cut Δ Θ ↦ cut (v ∷ Δ) (v ∷ Θ) ]

-- the variables lie in one of the two halves
abbrev pub Half : Format → Cut → List Float → Type 0
Half f uncut ρ = Unit {0}
Half f (cut Δ Θ) ρ = Inside f Δ ρ ⊎ Inside f Θ ρ

-- variables that lie in a box lie in one of its halves
pub in-half : (f : Format) (Γ : List Iv) (n : ℕ) (ρ : List Float) → Inside f Γ ρ → Half f (halves f Γ n) ρ
unfolding halves
in-half f [] n ρ h = tt
in-half f (bad ∷ Γ) zero ρ h = tt
in-half f (iv a b ∷ Γ) zero [] h = absurd h
in-half f (iv a b ∷ Γ) zero (x ∷ ρ) h = go (good f (middle f a b)) (good-real f (middle f a b)) (le x (middle f a b)) (λ (t : T (le x (middle f a b))). t) (λ r. nle→le f x (middle f a b) h.0.value r)
  where
    m : Float
    m = middle f a b

    go : (g : Bool) → (T g → Real f m) → (c : Bool) → (T c → T (le x m)) → (Real f m → T (not c) → T (le m x)) → Half f (cond g (cut (iv a m ∷ Γ) (iv m b ∷ Γ)) uncut) (x ∷ ρ)
    go false r c u v = tt
    go true r true u v = inl (record { low = h.0.low; high = r tt; value = h.0.value; above = h.0.above; below = u tt }, h.1)
    go true r false u v = inr (record { low = r tt; high = h.0.high; value = h.0.value; above = v (r tt) tt; below = h.0.below }, h.1)
in-half f (v ∷ Γ) (suc n) [] h = absurd h
in-half f (v ∷ Γ) (suc n) (x ∷ ρ) h = go (halves f Γ n) (in-half f Γ n ρ h.1)
  where
    go : (k : Cut) → Half f k ρ → Half f (elim k as (λ _. Cut) [ uncut ↦ uncut | cut Δ Θ ↦ cut (v ∷ Δ) (v ∷ Θ) ]) (x ∷ ρ)
    go uncut p = tt
    go (cut Δ Θ) (inl p) = inl (h.0, p)
    go (cut Δ Θ) (inr p) = inr (h.0, p)

-- the test on the box, then on its halves as far as the list of variables goes
unfoldable pub sweep : Format → List ℕ → List Iv → Ex → Float → Float → Bool
unfolding check halves
sweep f [] Γ e lo hi = check f Γ e lo hi
sweep f (n ∷ ns) Γ e lo hi =
    elim (check f Γ e lo hi) [
      | true ↦ true
      | false ↦ elim (halves f Γ n) [ uncut ↦ false | cut Δ Θ ↦ sweep f ns Δ e lo hi && sweep f ns Θ e lo hi ]
    ]

-- what a sweep that computes to true proves
pub swept : (f : Format) (ns : List ℕ) (Γ : List Iv) (ρ : List Float) (e : Ex) (lo hi : Float) → Real f lo → Real f hi → T (sweep f ns Γ e lo hi) → Inside f Γ ρ → In f lo hi (eval f ρ e)
unfolding sweep
swept f [] Γ ρ e lo hi l h t p = checked f Γ ρ e lo hi l h t p
swept f (n ∷ ns) Γ ρ e lo hi l h t p = go (check f Γ e lo hi) (λ (u : T (check f Γ e lo hi)). u) (halves f Γ n) (in-half f Γ n ρ p) t (λ Δ. swept f ns Δ ρ e lo hi l h)
  where
    go : (c : Bool) → (T c → T (check f Γ e lo hi)) → (k : Cut) → Half f k ρ → T (elim c as (λ _. Bool) [ true ↦ true | false ↦ elim k as (λ _. Bool) [ uncut ↦ false | cut Δ Θ ↦ sweep f ns Δ e lo hi && sweep f ns Θ e lo hi ] ])
        → ((Δ : List Iv) → T (sweep f ns Δ e lo hi) → Inside f Δ ρ → In f lo hi (eval f ρ e)) → In f lo hi (eval f ρ e)
    go true u k q t r = checked f Γ ρ e lo hi l h (u tt) p
    go false u uncut q t r = absurd t
    go false u (cut Δ Θ) (inl q) t r = r Δ (and_l (sweep f ns Δ e lo hi) (sweep f ns Θ e lo hi) t) q
    go false u (cut Δ Θ) (inr q) t r = r Θ (and_r (sweep f ns Δ e lo hi) (sweep f ns Θ e lo hi) t) q
