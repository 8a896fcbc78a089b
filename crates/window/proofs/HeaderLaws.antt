-- The header's words that a frame moves: the clock, the oldest slot and the count. Assumes nothing.
use Prim.Native.Nat.{ℕ, ◌<◌, ◌^◌}
use native.Mathlib.Omega.{arith}
use mathlib.Core.Path.{◌≡◌, ap, ◌∙◌}
use mathlib.Core.List.{List}
use lib.ListN.{length, set, length-set}
use Rattle.std.proofs.lemmas.Grind.{common_steps}
use Rattle.paper.specs.Layout.{clock_at, oldest_at, count_at, header_words, slots, state_length}
use Rattle.memory.specs.Words.{words, put_word}
use Rattle.memory.proofs.WordLaws.{words_length, put_word_lem, put_length}
use Rattle.memory.proofs.KeepsLaws.{keeps_refl, keeps_more}
use Rattle.window.specs.Cursor.{PutCursor}

-- in words
cursor_set : (w : List ℕ) (clock oldest count : ℕ) → count_at < length w
    → PutCursor clock oldest count w (set (set (set w clock_at clock) oldest_at oldest) count_at count)
cursor_set w clock oldest count h =
    let l₁ = length-set w clock_at clock in
    let l₂ = length-set (set w clock_at clock) oldest_at oldest in
    record {
      keeps =
          keeps_more
          (keeps_more (keeps_more (keeps_refl clock_at header_words w) clock_at clock (omega arith) (omega arith)) oldest_at oldest (omega arith) (omega arith))
          count_at count (omega arith) (omega arith);
      clock_is = grind (arith, common_steps);
      oldest_is = grind (arith, common_steps);
      count_is = grind (arith, common_steps);
    }

-- as the words are put one after the other
pub cursor_put : (s₀ s₁ s₂ s₃ : List ℕ) {clock oldest count : ℕ} → length s₀ ≡ state_length → clock < 2 ^ 32 → oldest < slots → count < slots
    → s₁ ≡ put_word s₀ clock_at clock → s₂ ≡ put_word s₁ oldest_at oldest → s₃ ≡ put_word s₂ count_at count
    → PutCursor clock oldest count (words s₀) (words s₃)
cursor_put s₀ s₁ s₂ s₃ {clock} {oldest} {count} long hc ho hn e₁ e₂ e₃ =
    let l₁ : length s₁ ≡ length s₀ = ap length e₁ ∙ put_length s₀ clock_at clock in
    let l₂ : length s₂ ≡ length s₁ = ap length e₂ ∙ put_length s₁ oldest_at oldest in
    let l = words_length s₀ in
    rw (
      e₃,
      put_word_lem s₂ count_at count (omega arith) (omega arith),
      e₂,
      put_word_lem s₁ oldest_at oldest (omega arith) (omega arith),
      e₁,
      put_word_lem s₀ clock_at clock (omega arith) hc,
    ) (cursor_set (words s₀) clock oldest count (omega arith))
