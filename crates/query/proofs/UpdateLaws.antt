-- The three ends of an update: the frame doesn't reach the query, it changes its list, or it changes its candidates alone. Assumes nothing.
use Prim.Native.Nat.{ℕ, ◌+◌, ◌/◌}
use native.Mathlib.Omega.{arith}
use mathlib.Core.Path.{◌≡◌, refl, sym, ◌∙◌}
use mathlib.Core.Bool.{true, false, ◌||◌, true≢false}
use mathlib.Core.List.{List}
use lib.Dec.{leb}
use borrow.Author.Tests.{leb-false}
use Rattle.paper.specs.Rank.{key_factor}
use Rattle.paper.specs.Layout.{record_at, record_words, listed_in}
use Rattle.paper.proofs.Tests.{or_false}
use Rattle.memory.proofs.KeepsLaws.{keeps_refl, keeps_wider}
use Rattle.query.specs.Move.{Move}
use Rattle.query.specs.declared.Touch.{Touch}
use Rattle.query.specs.Touch.{Touched}
use Rattle.query.specs.Post.{MovedFlags, Least, KeptList, Changed, Updated}
use Rattle.query.proofs.MoveLaws.{answered, told, stays_right}
use Rattle.query.proofs.ChangeLaws.{still_holds}

module _ {w : List ℕ} {q : ℕ} {m : Move} {coming going : List ℕ} {touch : Touch} (touched : Touched w q coming going touch) where
  pub unreached : (touch.comes || touch.goes) ≡ false → Updated w q m coming going false w
  unreached e = record {
    keeps = keeps_refl (listed_in q) (record_at q + record_words) w;
    untouched = λ z. refl;
    right = λ w₀ o n aa ga sa ca query tables change terms held.
        let a = sym e ∙ answered touched tables change terms held in
        (a, stays_right change held (sym a));
  }

  module _ (e : (touch.comes || touch.goes) ≡ true) {fs : List ℕ} {least : ℕ} (flags_are : MovedFlags w q m touch.comes fs)
      (least-is : Least w q least) {w' : List ℕ} where
    pub changes : Changed w q m touch least fs w' → Updated w q m coming going true w'
    changes changed = record {
      keeps = changed.keeps;
      untouched = λ z. absurd (true≢false z);
      right = λ w₀ o n aa ga sa ca query tables change terms held. (
        sym e ∙ answered touched tables change terms held,
        changed.right w₀ o n aa ga sa ca query change terms held (least-is.is query terms held.says held.listed_most)
            (told touched tables change terms held flags_are),
      );
    }

    -- no message scores enough to change the list
    pub stands : (leb (least / key_factor) touch.came || leb (least / key_factor) touch.went) ≡ false → KeptList w q fs w'
        → Updated w q m coming going true w'
    stands low kept = record {
      keeps = keeps_wider (omega arith) (omega arith) kept.keeps;
      untouched = λ z. absurd (true≢false z);
      right = λ w₀ o n aa ga sa ca query tables change terms held.
          let p = or_false (leb (least / key_factor) touch.came) (leb (least / key_factor) touch.went) low in (
            sym e ∙ answered touched tables change terms held,
            still_holds change terms held (least-is.is query terms held.says held.listed_most)
                (told touched tables change terms held flags_are) (leb-false (least / key_factor) touch.came p.0)
                (leb-false (least / key_factor) touch.went p.1) kept,
          );
    }
