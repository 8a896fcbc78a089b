-- Flags taken away slot by slot around the ring. Assumes nothing.
use Prim.Native.Nat.{ℕ, ◌-◌, ◌≤◌, ◌<◌}
use mathlib.Core.Path.{◌≡◌, refl, sym, ap, ◌∙◌, subst}
use mathlib.Core.Bool.{Bool, true, false, cond}
use mathlib.Core.Logic.{◌⊎◌, inl, inr, ⊎_elim}
use mathlib.Core.List.{List, ◌∷◌}
use lib.Dec.{eqb}
use borrow.Author.Tests.{eqb-true, eq-eqb, ne_eqb}
use Rattle.paper.specs.Order.{In}
use Rattle.paper.proofs.Tests.{by_bool}
use Rattle.window.specs.Slot.{next, ring}
use Rattle.window.proofs.RingLaws.{ring_step, ring_none}
use Rattle.candidates.specs.Flags.{flag_of}
use Rattle.candidates.specs.Post.{WithFlag, Without}

-- what stands once the slots from slot o on, but for the n from slot j on that are left, have lost their flags
pub record Walked (fs : List ℕ) (o count j n : ℕ) (r : List ℕ) : Type 0 where
  done : (i : ℕ) → In i (ring o count) → In i (ring j n) ⊎ (flag_of r i ≡ false)
  others : (i : ℕ) → (In i (ring o count) → ⊥) → flag_of r i ≡ flag_of fs i
  within : (i : ℕ) → In i (ring j n) → In i (ring o count)

pub walk_start : (fs : List ℕ) (o count : ℕ) → Walked fs o count o count fs
walk_start fs o count = record { done = λ i m. inl m; others = λ i m. refl; within = λ i m. m }

module _ {fs : List ℕ} {o count j n : ℕ} {r : List ℕ} (l : Walked fs o count j n r) where
  pub walk_step : {r' : List ℕ} → 0 < n → WithFlag r j false r' → Walked fs o count (next j) (n - 1) r'
  walk_step {r'} some new = record {
    done = λ i m. ⊎_elim (λ k. here i (subst (In i) step k)) (λ e. inr (stays i e)) (l.done i m);
    others = λ i m. new i
        ∙ ap (λ (b : Bool). cond b false (flag_of r i)) (ne_eqb i j (λ e. m (l.within i (subst (In i) (sym step) (inl e)))))
        ∙ l.others i m;
    within = λ i m. l.within i (subst (In i) (sym step) (inr m));
  }
    where
      step : ring j n ≡ j ∷ ring (next j) (n - 1)
      step = ring_step j n some

      stays : (i : ℕ) → flag_of r i ≡ false → flag_of r' i ≡ false
      stays i e = new i ∙ by_bool (eqb i j) (λ q. rw q) (λ q. rw (q, e))

      here : (i : ℕ) → In i (j ∷ ring (next j) (n - 1)) → In i (ring (next j) (n - 1)) ⊎ (flag_of r' i ≡ false)
      here i (inl e) = inr (new i ∙ ap (λ (b : Bool). cond b false (flag_of r i)) (eq-eqb i j e))
      here i (inr m) = inl m

  pub walk_all : n ≤ 0 → Without fs o count r
  walk_all none = record { gone = λ i m. ⊎_elim (λ k. absurd (subst (In i) (ring_none j n none) k)) (λ e. e) (l.done i m); others = l.others }

-- a flag that stands as it should
pub flag_stands : (r : List ℕ) (j : ℕ) (b : Bool) → flag_of r j ≡ b → WithFlag r j b r
flag_stands r j b e i = go (eqb i j) refl
  where
    go : (t : Bool) → eqb i j ≡ t → flag_of r i ≡ cond t b (flag_of r i)
    go true q = ap (flag_of r) (eqb-true i j q) ∙ e
    go false q = refl
