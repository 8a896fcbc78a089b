-- `unit` meets its contract. Assumes nothing.
use Prim.Native.Nat.{ℕ, ◌-◌, ◌*◌, ◌/◌, ◌^◌, ◌≤◌, ◌<◌}
use native.Mathlib.Nat.{div-le_self, le-div_iff_mul-le, div-lt_iff_lt-mul}
use native.Mathlib.Omega.{arith}
use lib.Count.{count_leading_zeros, leading_le}
use lib.Pow.{pow_pos, pow_mono}
use Rattle.impact.specs.Table.{reach}
use Rattle.impact.proofs.Newton.{stepped}
use Rattle.impact.proofs.unit.Goals as goal

-- half the bits of n
abbrev half : ℕ → ℕ
half n = (32 - count_leading_zeros 32 n) / 2

half_most : (n : ℕ) → half n ≤ 16
half_most n = let z = leading_le 32 n in omega arith

start_above : (n : ℕ) → 0 < reach / 2 ^ half n
start_above n =
    (le-div_iff_mul-le {k = 2 ^ half n} {x = 1} {y = reach} (pow_pos (half n))).1
    (let p = pow_mono {i = half n} {j = 16} (half_most n) in omega arith)

most_above : (n : ℕ) → 0 < n → n < 2 ^ 32 → 0 < reach * reach / n
most_above n h l = (le-div_iff_mul-le {k = n} {x = 1} {y = reach * reach} h).1 (omega arith)

-- what is divided is above 0
above : (c : goal.Start) → 0 < reach * reach / c.args.n
above c =
    most_above c.args.n c.requires c.ranges.n.fits

pub closer-requires : goal.closer-requires
closer-requires c =
    (div-le_self (reach * reach) c.args.n, start_above c.args.n, div-le_self reach (2 ^ half c.args.n))

pub closer-requires-2 : goal.closer-requires-2
closer-requires-2 c =
    (stepped (above c.before) (closer-requires c.before) c.closer.ensures).0

pub closer-requires-3 : goal.closer-requires-3
closer-requires-3 c =
    (stepped (above c.before.before) (closer-requires-2 c.before) c.closer-2.ensures).0

pub closer-guess-requires : goal.closer-guess-requires
closer-guess-requires c =
    (stepped (above c.before.before.before) (closer-requires-3 c.before) c.closer-3.ensures).0

pub loop-guess-init : goal.loop-guess-init
loop-guess-init c =
    stepped (above c.before.before.before.before) (closer-guess-requires c.before) c.closer-guess.ensures

pub loop-guess-preserved : goal.loop-guess-preserved
loop-guess-preserved c =
    stepped (above c.before.before.before.before.before.before.before) c.loop-guess.invariant.0 c.closer-guess-in-loop-guess.ensures

pub returns : goal.returns
returns c =
    let p = c.requires in
    ((le-div_iff_mul-le p).0 (omega arith), (div-lt_iff_lt-mul p).0 c.loop-guess.invariant.1)
