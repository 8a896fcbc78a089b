-- Thresholds beside a list: when the list is secure. Assumes nothing.
use Prim.Native.Nat.{ℕ, ◌≤◌, ◌<◌}
use native.Mathlib.Omega.{arith}
use mathlib.Core.Path.{◌≡◌}
use mathlib.Core.Bool.{true, false, ◌&&◌}
use mathlib.Core.Logic.{◌⊎◌, inl, inr, ⊎_elim}
use mathlib.Core.List.{List}
use lib.Dec.{eqb, leb, ltb}
use borrow.Author.Tests.{eq-eqb, ne_eqb, le-leb, lt-leb, eqb-true, leb-true, ltb-true}
use Rattle.paper.proofs.Tests.{and_true, or_true}
use Rattle.rank.specs.declared.Ranked.{Ranked}
use Rattle.rank.specs.Listing.{keyed_of, last_score_of}
use Rattle.candidates.specs.declared.Query.{Query}
use Rattle.query.specs.Post.{sum_of, secure}

module _ (r : Query) (hs : List ℕ) (l : Ranked) where
  pub secure_zero : sum_of r hs ≡ 0 → true ≡ secure r hs l
  unfolding secure
  secure_zero z = rw (eq-eqb (sum_of r hs) 0 z)

  pub secure_short : 0 < sum_of r hs → l.count < r.k → false ≡ secure r hs l
  unfolding secure
  secure_short p h = rw (ne_eqb (sum_of r hs) 0 (λ e. omega arith), lt-leb r.k l.count h)

  pub secure_full : 0 < sum_of r hs → r.k ≤ l.count → ltb (sum_of r hs) (last_score_of (keyed_of l)) ≡ secure r hs l
  unfolding secure
  secure_full p h = rw (ne_eqb (sum_of r hs) 0 (λ e. omega arith), le-leb r.k l.count h)

  pub secure_safe : secure r hs l ≡ true → (sum_of r hs ≡ 0) ⊎ ((r.k ≤ l.count) × (sum_of r hs < last_score_of (keyed_of l)))
  unfolding secure
  secure_safe e =
      ⊎_elim
      (λ z. inl (eqb-true (sum_of r hs) 0 z))
      (λ b. let p = and_true (leb r.k l.count) (ltb (sum_of r hs) (last_score_of (keyed_of l))) b in inr (leb-true _ _ p.0, ltb-true _ _ p.1))
      (or_true (eqb (sum_of r hs) 0) (leb r.k l.count && ltb (sum_of r hs) (last_score_of (keyed_of l))) e)
