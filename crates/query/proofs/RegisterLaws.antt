-- A new query: it is written word by word, and settled over the window. Assumes nothing.
use Prim.Native.Nat.{ℕ, ◌+◌, ◌*◌, ◌≤◌, ◌<◌}
use native.Mathlib.Omega.{arith}
use mathlib.Core.Path.{◌≡◌, refl, sym, ap, ◌∙◌}
use mathlib.Core.Bool.{Bool, true, false}
use mathlib.Core.List.{List}
use lib.ListN.{length, get_or, set, get_or-eq_default}
use lib.Seq.{get_or-set_same, get_or-set_other}
use lib.Dec.{ltb}
use Rattle.paper.specs.Frame.{Pair, numbers, most_terms}
use borrow.Author.Tests.{ltb-true, ltb-false}
use Rattle.paper.specs.Rank as Rank
use Rattle.paper.specs.Threshold.{term_at, weight_at}
use Rattle.paper.specs.Write.{side_by_side}
use Rattle.paper.specs.Layout.{state_length, slots, record_at, size_in, pairs_in, listed_in}
use Rattle.paper.proofs.WriteLaws.{length_side}
use Rattle.memory.specs.Words.{words, put_word}
use Rattle.memory.specs.Keeps.{Keeps, Stored}
use Rattle.memory.proofs.WordLaws.{put_word_lem, put_length, words_length}
use Rattle.memory.proofs.KeepsLaws.{keeps_refl, keeps_trans, keeps_wider, keeps_more}
use Rattle.rank.specs.Weights.{weight_limit}
use Rattle.candidates.specs.declared.Query.{Query}
use Rattle.candidates.proofs.TermLaws.{side_at}
use Rattle.query.specs.Post.{LoadedQuery, Refilled, PutQuery, Registered, Packed}
use Rattle.query.proofs.KeptLaws.{over_kept}
use Rattle.query.proofs.QueryLaws.{part_at}

-- ---- one word written

module _ (s : List ℕ) {s' : List ℕ} (a v : ℕ) (put : s' ≡ put_word s a v) (room : 4 * a + 4 ≤ length s) (fits : v < 4294967296) where
  written : words s' ≡ set (words s) a v
  written = ap words put ∙ put_word_lem s a v room fits

  here : get_or (words s') a 0 ≡ v
  here = ap (λ (w : List ℕ). get_or w a 0) written ∙ get_or-set_same (words s) a v 0 (omega (arith, words_length s))

  elsewhere : (i : ℕ) → (i ≡ a → ⊥) → get_or (words s') i 0 ≡ get_or (words s) i 0
  elsewhere i d = ap (λ (w : List ℕ). get_or w i 0) written ∙ get_or-set_other (words s) a i v 0 d

  keeps_one : {x y : ℕ} {w : List ℕ} → x ≤ a → a < y → Keeps x y w (words s) → Keeps x y w (words s')
  keeps_one h k p = rw written (keeps_more p a v h k)

-- ---- the loop: i of the pairs are packed

pub record Packing (n : ℕ) (ts us ps : List ℕ) (i : ℕ) : Type 0 where
  pub bound : i ≤ n
  pub wide : length ps ≡ most_terms
  pub done : (j : ℕ) → j < i → get_or ps j 0 ≡ get_or ts j 0 * weight_limit + get_or us j 0
  pub rest : (j : ℕ) → i ≤ j → get_or ps j 0 ≡ 0

-- past the terms the pair is 0 and 0
no_pair : (qs : List Pair) (i : ℕ) → length qs ≤ i → 0 ≡ term_at qs i * weight_limit + weight_at qs i
unfolding term_at weight_at
no_pair qs i h = ap (λ (p : Pair). p.term * weight_limit + p.amount) (sym (get_or-eq_default qs (record { term = 0; amount = 0 }) {n = i} h))

pub packed_all : {n : ℕ} {ts us ps : List ℕ} {i : ℕ} → n ≤ i → n ≤ length ts → n ≤ length us → Packing n ts us ps i → Packed (side_by_side n ts us) ps
packed_all {n} {ts} {us} {ps} {i} h ht hu f j most = go (ltb j n) refl
  where
    long : length (side_by_side n ts us) ≡ n
    long = length_side n ts us ht hu

    go : (b : Bool) → ltb j n ≡ b → get_or ps j 0 ≡ term_at (side_by_side n ts us) j * weight_limit + weight_at (side_by_side n ts us) j
    go true e =
        let l = ltb-true j n e in
        let at = side_at n ts us j (omega (arith, long)) in
        f.done j (omega (arith, f.bound)) ∙ rw (at.1, at.2) refl
    go false e = let l = ltb-false j n e in f.rest j (omega (arith, f.bound)) ∙ no_pair (side_by_side n ts us) j (omega (arith, long))

-- the length of the list and the number of terms were written before
module _ (s₀ s₁ : List ℕ) {s₂ : List ℕ} (q k n : ℕ) (whole : length s₀ ≡ state_length) (number : q < numbers) (fk : k < 4294967296) (most : n ≤ most_terms)
    (p : s₁ ≡ put_word s₀ (record_at q) k) (r : s₂ ≡ put_word s₁ (size_in q) n) where
  pub query_put : (ts us : List ℕ) {ps w : List ℕ} → n ≤ length ts → n ≤ length us → Packed (side_by_side n ts us) ps
      → Stored (pairs_in q) most_terms ps (words s₂) w
      → PutQuery q (record { k = k; terms = side_by_side n ts us }) (words s₀) w
  query_put ts us {ps} {w} ht hu packed stored =
      let l : length s₁ ≡ length s₀ = ap length p ∙ put_length s₀ (record_at q) k in
      let room : 4 * record_at q + 4 ≤ length s₀ = omega arith in
      let room₁ : 4 * size_in q + 4 ≤ length s₁ = omega arith in
      let fn : n < 4294967296 = omega arith in
      record {
        keeps =
            keeps_trans
            (keeps_one s₁ (size_in q) n r room₁ fn (omega arith) (omega arith)
            (keeps_one s₀ (record_at q) k p room fk (omega arith) (omega arith) (keeps_refl (record_at q) (listed_in q) (words s₀))))
            (keeps_wider (omega arith) (omega arith) stored.keeps);
        says = record {
          k =
              stored.keeps.below (record_at q) (omega arith)
              ∙ elsewhere s₁ (size_in q) n r room₁ fn (record_at q) (λ e. omega arith)
              ∙ here s₀ (record_at q) k p room fk;
          size = stored.keeps.below (size_in q) (omega arith) ∙ here s₁ (size_in q) n r room₁ fn ∙ sym (length_side n ts us ht hu);
          pairs = λ i h. sym (part_at w (pairs_in q) i h) ∙ ap (λ (x : List ℕ). get_or x i 0) stored.reads ∙ packed i h;
        };
      }

-- ---- and settled

pub registered : {q o n : ℕ} {query : Rank.Query} {r : Query} {w w₁ w₂ : List ℕ} → o < slots → PutQuery q query w w₁ → LoadedQuery w₁ q r
    → Refilled w₁ q o n r w₂
    → Registered w q o n query w₂
registered {q} {o} {n} {query} ho put loaded refilled = record {
  keeps = keeps_trans (keeps_wider (omega arith) (omega arith) put.keeps) (keeps_wider (omega arith) (omega arith) refilled.keeps);
  right = λ ms over terms. refilled.right ms query (over_kept put.keeps (omega arith) o n ho over) terms put.says (loaded.is query terms put.says);
}
