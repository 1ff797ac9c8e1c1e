-- The fields of x's own pattern go to `magnitude`, whose contract holds for either sign; the sign's bit is put on (`narrow-is`).
use mathlib.Core.Bool.{not}
use lib.Dec.{T}
use lib.Ieee.{fits, is_nan, of_bits, binary64}
use Rattle.arithmetic.proofs.NarrowCases.{nan-narrows, no_payload, bits-lt, narrow-is, narrow-small}
use native.Mathlib.Omega.{arith}
use borrow.Author.Rules.{rules}
use Rattle.arithmetic.proofs.narrowing.narrow.Goals as goal

pub returns-then-is_nan : goal.returns-then-is_nan
unfolding of_bits
returns-then-is_nan c = nan-narrows c.args.x (search rules)

pub magnitude-mag-requires : goal.magnitude-mag-requires
magnitude-mag-requires c =
    let fit : T (fits binary64 c.args.x) = search rules in
    let number : T (not (is_nan c.args.x)) = search rules in
    (omega arith, omega arith, no_payload c.args.x fit number)

pub overflow_mul-result : goal.overflow_mul-result
overflow_mul-result c =
    let fit : T (fits binary64 c.args.x) = search rules in
    let number : T (not (is_nan c.args.x)) = search rules in
    omega (arith, bits-lt c.args.x fit number)

pub overflow_add-result : goal.overflow_add-result
overflow_add-result c =
    let fit : T (fits binary64 c.args.x) = search rules in
    let number : T (not (is_nan c.args.x)) = search rules in
    omega (arith, bits-lt c.args.x fit number, c.magnitude-mag.ensures.small)

pub overflow_cast-result : goal.overflow_cast-result
overflow_cast-result c =
    let fit : T (fits binary64 c.args.x) = search rules in
    let number : T (not (is_nan c.args.x)) = search rules in
    omega (arith, bits-lt c.args.x fit number, c.magnitude-mag.ensures.small)

pub float_from_bits-result : goal.float_from_bits-result
float_from_bits-result c =
    let fit : T (fits binary64 c.args.x) = search rules in
    let number : T (not (is_nan c.args.x)) = search rules in
    narrow-small c.args.x fit number _ c.magnitude-mag.ensures.small

pub returns : goal.returns
returns c =
    let fit : T (fits binary64 c.args.x) = search rules in
    let number : T (not (is_nan c.args.x)) = search rules in
    narrow-is c.args.x fit number _ c.magnitude-mag.ensures
