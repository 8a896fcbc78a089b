-- The search for the impact: the places that the impact of a count of 1 leaves, and the greatest of them that meets the rule. Assumes nothing.
use Prim.Native.Nat.{ℕ, zero, suc, ◌+◌, ◌-◌, ◌*◌, ◌/◌, ◌≤◌, ◌<◌, min, max}
use native.Mathlib.Nat.{
  mul_assoc,
  mul-zero,
  mul-one,
  mul-add,
  le_refl,
  le_antisymm,
  le_trans,
  lt_of_le_of_lt,
  not-le_of_lt,
  mul-pos,
  mul-le-mul,
  mul-le-mul_left,
  mul-le-mul_right,
  mul-lt-mul_of_pos_left,
  mul-mul-mul_comm,
  mul_right_comm,
  div-mul-le_self,
  min-le_left,
  min-le_right,
  le-min,
  le-div_iff_mul-le,
}
use native.Mathlib.Omega.{arith}
use mathlib.Core.Path.{◌≡◌, refl, subst}
use Rattle.paper.specs.Impact.{top, impact}
use Rattle.paper.proofs.ImpactLaws.{impact_most, impact_meets, impact_from}
use Rattle.impact.specs.Table.{fine, reach}
use Rattle.impact.proofs.Newton.{unless_below, root_most}

-- ---- the greatest place of a range whose square is at most `most`

pub record Search (last most low high : ℕ) : Type 0 where
  pub in_order : low ≤ high
  pub in_range : high ≤ last
  pub meets : low * low ≤ most
  pub none_above : (v : ℕ) → v ≤ last → v * v ≤ most → v ≤ high

-- the half of the places that a look at one leaves
module _ {last most low high middle : ℕ} (s : Search last most low high) (above : low < middle) (below : middle ≤ high) where
  pub upper_half : middle * middle ≤ most → Search last most middle high
  upper_half h = record { in_order = below; in_range = s.in_range; meets = h; none_above = s.none_above }

  pub lower_half : most < middle * middle → Search last most low (middle - 1)
  lower_half h =
      record {
        in_order = omega arith;
        in_range = let r = s.in_range in omega arith;
        meets = s.meets;
        none_above = λ v l m. unless_below (λ k. not-le_of_lt (lt_of_le_of_lt m h) (mul-le-mul {n₂ = v} {m₂ = v} (omega arith) (omega arith)));
      }

-- ---- none is left but the impact

pub place_found : (f n most w last : ℕ) → 0 < n → most ≡ (top * f) * (top * f) / n → last ≤ top → impact f n ≤ last
    → (w ≤ last) × (w * w ≤ most) × ((v : ℕ) → v ≤ last → v * v ≤ most → v ≤ w) → w ≡ impact f n
place_found f n most w last h e t i r =
    le_antisymm (impact_from f n w (le_trans r.0 t) ((le-div_iff_mul-le h).0 (rw e at r.1)))
    (r.2 (impact f n) i (rw e ((le-div_iff_mul-le h).1 (impact_meets f n))))

pub top_of_none : (f n : ℕ) → n ≡ 0 → impact f n ≡ top
top_of_none f n z = le_antisymm (impact_most f n) (impact_from f n top (le_refl top) (rw (z, mul-zero) (omega arith)))

-- ---- the places that the impact u of a count of 1, in fine parts, leaves for a count f

pub unit_most : (n u : ℕ) → 0 < n → u * u * n ≤ reach * reach → u ≤ reach
unit_most n u p h = root_most u reach (le_trans (rw mul-one at (mul-le-mul_left (u * u) p)) h)

module _ (f n u : ℕ) (positive : 0 < n) where
  pub low_place : u * u * n ≤ reach * reach → min (f * u / fine) top ≤ impact f n
  low_place h =
      let l : ℕ = f * u / fine in
      let w : ℕ = min l top in
      let a : l * fine * (l * fine) ≤ f * u * (f * u) = mul-le-mul (div-mul-le_self (f * u) fine) (div-mul-le_self (f * u) fine) in
      let b : l * l * (fine * fine) * n ≤ f * f * (u * u) * n = mul-le-mul_right n (rw (mul-mul-mul_comm l fine l fine, mul-mul-mul_comm f u f u) at a) in
      let c : f * f * (u * u * n) ≤ f * f * (reach * reach) = mul-le-mul_left (f * f) h in
      let d = mul_right_comm (l * l) (fine * fine) n in
      let e = mul_assoc (f * f) (u * u) n in
      let g : w * w * n ≤ l * l * n = mul-le-mul_right n (mul-le-mul (min-le_left l top) (min-le_left l top)) in
      impact_from f n w (min-le_right l top) (rw (mul-mul-mul_comm top f top f) (omega arith))

  pub high_place : reach * reach < (u + 1) * (u + 1) * n → impact f n ≤ min ((f * u + f) / fine) top
  high_place h = le-min ((le-div_iff_mul-le {x = w} {y = f * u + f} (omega arith)).1 (unless_below (go f refl))) (impact_most f n)
    where
      w : ℕ
      w = impact f n

      go : (g : ℕ) → f ≡ g → f * u + f < w * fine → ⊥
      go zero e l =
          let m : w * w * n ≤ 0 = subst (λ (x : ℕ). w * w * n ≤ top * x * (top * x)) e (impact_meets f n) in
          let p : 0 < w = omega arith in
          not-le_of_lt (mul-pos (mul-pos p p) positive) m
      go (suc g) e l =
          let o : f * (u + 1) ≤ w * fine = rw (mul-add f u 1, mul-one) (omega arith) in
          let s : f * f * ((u + 1) * (u + 1)) ≤ w * w * (fine * fine) =
          rw (mul-mul-mul_comm f (u + 1) f (u + 1), mul-mul-mul_comm w fine w fine) at (mul-le-mul o o) in
          let a : f * f * ((u + 1) * (u + 1)) * n ≤ w * w * (fine * fine) * n = mul-le-mul_right n s in
          let b : f * f * (reach * reach) < f * f * ((u + 1) * (u + 1) * n) = mul-lt-mul_of_pos_left h (mul-pos (omega arith) (omega arith)) in
          let m : w * w * n ≤ top * top * (f * f) = rw (mul-mul-mul_comm top f top f) at (impact_meets f n) in
          let d = mul_right_comm (w * w) (fine * fine) n in
          let k = mul_assoc (f * f) ((u + 1) * (u + 1)) n in
          omega arith

  -- the impact lies between the two places; v is what `unit` is asked for
  pub between : {v low high : ℕ} → v ≡ max n 1 → (u * u * v ≤ reach * reach) × (reach * reach < (u + 1) * (u + 1) * v) → low ≡ min (f * u / fine) top
      → high ≡ min ((f * u + f) / fine) top → (low ≤ impact f n) × (impact f n ≤ high)
  between {v} e h l r =
      let k : v ≡ n = omega arith in
      (rw l (low_place (rw k at h.0)), rw r (high_place (rw k at h.1)))
