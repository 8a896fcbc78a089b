-- What is written into a record: what is kept of a query, and zeros. Assumes nothing.
use Prim.Native.Nat.{ℕ, ◌+◌, ◌≤◌, ◌<◌}
use native.Mathlib.Omega.{arith}
use mathlib.Core.Path.{◌≡◌, ap, ◌∙◌}
use mathlib.Core.Logic.{inl}
use mathlib.Core.List.{List}
use lib.ListN.{length, take, drop, set, replicate, get_or-replicate}
use lib.Seq.{get_or-take, get_or-drop, get_or-set_same}
use Rattle.paper.specs.Frame.{numbers, most_listed}
use Rattle.paper.specs.Layout.{state_length, record_at, record_words, listed_in, thresholds_in, serials_in, keys_in, flags_in}
use Rattle.memory.specs.Words.{words, put_word}
use Rattle.memory.specs.Keeps.{Keeps, Stored}
use Rattle.memory.proofs.WordLaws.{words_length, put_word_lem}
use Rattle.memory.proofs.KeepsLaws.{keeps_refl, keeps_trans, keeps_wider, keeps_set, keeps_at, keeps_part}
use Rattle.rank.specs.declared.Ranked.{Ranked}
use Rattle.query.specs.Post.{StoredKept, Cleared}

-- a part written, then only what comes after it: it stays, and nothing before it changed
then : {i n b e : ℕ} {a s t u : List ℕ} → i + n ≤ b → b ≤ e → Stored i n a s t → Keeps b e t u → Keeps i e s u × (take n (drop i u) ≡ a)
then {i} {n} h k p r =
    (keeps_trans (keeps_wider (omega arith) (omega arith) p.keeps) (keeps_wider (omega arith) (omega arith) r), keeps_part r i n (inl h) ∙ p.reads)

module _ (q : ℕ) (list : Ranked) {hs fs : List ℕ} (s t : List ℕ) {w₂ w₃ w₄ w₅ : List ℕ} (long : length s ≡ state_length) (number : q < numbers)
    (most : list.count ≤ most_listed)
    (put : t ≡ put_word s (listed_in q) list.count) (eight : Stored (thresholds_in q) 8 hs (words t) w₂)
    (serials : Stored (serials_in q) most_listed list.serials w₂ w₃) (keys : Stored (keys_in q) most_listed list.keys w₃ w₄)
    (nine : Stored (flags_in q) 9 fs w₄ w₅) where
  -- the five writes, the last first
  pub stored_kept : StoredKept q hs list fs (words s) w₅
  stored_kept =
      let l = words_length s in
      let one : words t ≡ set (words s) (listed_in q) list.count = ap words put ∙ put_word_lem s (listed_in q) list.count (omega arith) (omega arith) in
      let end : ℕ = record_at q + record_words in
      let f = then (omega arith) (omega arith) nine (keeps_refl end end w₅) in
      let c = then (omega arith) (omega arith) keys f.0 in
      let r = then (omega arith) (omega arith) serials c.0 in
      let h = then (omega arith) (omega arith) eight r.0 in
      record {
        keeps =
            keeps_trans
            (rw one (keeps_wider (omega arith) (omega arith) (keeps_set (words s) (listed_in q) list.count)))
            (keeps_wider (omega arith) (omega arith) h.0);
        count = keeps_at h.0 (listed_in q) (inl (omega arith)) ∙ rw one (get_or-set_same (words s) (listed_in q) list.count 0 (omega arith));
        thresholds = h.1;
        serials = r.1;
        keys = c.1;
        flags = f.1;
      }

-- ---- zeros

pub cleared : {q : ℕ} {w w' : List ℕ} → Stored (record_at q) record_words (replicate record_words 0) w w' → Cleared w q w'
cleared {q} {w} {w'} p = record {
  keeps = p.keeps;
  zero = λ i h.
      rw (← get_or-drop (record_at q) w' i 0, ← get_or-take record_words (drop (record_at q) w') i 0 h, p.reads)
      (get_or-replicate record_words i 0 0 h);
}
