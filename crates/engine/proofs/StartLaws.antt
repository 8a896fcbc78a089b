-- The memory of a fresh engine holds the fresh log. Assumes nothing.
use Prim.Native.Nat.{ℕ, zero, suc, ◌+◌, ◌*◌, ◌≤◌, ◌<◌}
use native.Mathlib.Omega.{arith}
use mathlib.Core.Path.{◌≡◌, refl, sym, ap, ◌∙◌, subst}
use mathlib.Core.Bool.{Bool, true, false, cond, ◌&&◌}
use mathlib.Core.List.{List, ◌∷◌, map}
use mathlib.Core.Option.{Option, none}
use lib.ListN.{length, get_or, set, replicate, length-set, length-replicate}
use lib.Seq.{get_or-set_same, get_or-set_other}
use lib.Dec.{eqb, leb, ltb}
use borrow.Author.Tests.{ltb-true, leb-true, eq-eqb, ne_eqb}
use Rattle.paper.specs.Frame.{numbers}
use Rattle.paper.specs.Log.{fresh, filled_now, judge_start, in_ranges, seen}
use Rattle.paper.specs.Rank.{Query}
use Rattle.paper.specs.Window.{filled, most_messages, longest_life}
use Rattle.paper.specs.Layout.{state_length, record_at, state_words, capacity_at, life_at, clock_at, oldest_at, count_at}
use Rattle.paper.proofs.Tests.{and_true}
use Rattle.paper.proofs.LogLaws.{fresh_sound}
use Rattle.memory.specs.Words.{fours, words, put_word}
use Rattle.memory.proofs.WordLaws.{put_word_lem, put_length}
use Rattle.window.specs.Slot.{ring, held, window}
use Rattle.query.specs.Record.{HoldsAt}
use Rattle.engine.proofs.ToldLaws.{zeros_at}
use Rattle.engine.specs.Represents.{Represents, oldest_of, count_of}
use Rattle.engine.specs.Post.{fresh_memory, StartPost}

four : (n : ℕ) → 4 * suc n ≡ suc (suc (suc (suc (4 * n))))
four n = omega arith

abbrev pub zeros : ℕ → List ℕ
zeros n = replicate n 0

words_zeros : (n : ℕ) → words (zeros (4 * n)) ≡ zeros n
unfolding words fours
words_zeros zero = refl
words_zeros (suc n) = rw four (ap (λ (l : List ℕ). 0 ∷ l) (words_zeros n))

none_at : (n i : ℕ) → get_or (replicate {A = Option Query} n none) i none ≡ none
none_at zero i = refl
none_at (suc n) zero = refl
none_at (suc n) (suc i) = none_at n i

module _ (N T : ℕ) (n_least : 1 ≤ N) (n_most : N ≤ most_messages) (t_least : 1 ≤ T) (t_most : T ≤ longest_life) where
  abbrev after : List ℕ
  after = set (set (zeros state_words) capacity_at N) life_at T

  fresh_words : words (fresh_memory N T) ≡ after
  unfolding fresh_memory
  fresh_words =
      let l : length (zeros state_length) ≡ state_length = length-replicate {A = ℕ} state_length 0 in
      let l' = put_length (zeros state_length) capacity_at N in
      put_word_lem (put_word (zeros state_length) capacity_at N) life_at T (omega arith) (omega arith)
      ∙ ap (λ (x : List ℕ). set x life_at T)
      (put_word_lem (zeros state_length) capacity_at N (omega arith) (omega arith) ∙ ap (λ (x : List ℕ). set x capacity_at N) (words_zeros state_words))

  -- past N and T all is 0
  rest : (i : ℕ) → life_at < i → get_or (after) i 0 ≡ 0
  rest i h =
      get_or-set_other (set (zeros state_words) capacity_at N) life_at i T 0 (λ e. omega arith)
      ∙ get_or-set_other (zeros state_words) capacity_at i N 0 (λ e. omega arith)
      ∙ zeros_at state_words i

  empty_window : (w : List ℕ) (o n : ℕ) → n ≡ 0 → window w o n ≡ map held (filled_now (fresh N T))
  unfolding ring filled
  empty_window w o n e = rw e

  empty_record : (q : ℕ) → HoldsAt after q (oldest_of after) (count_of after) (seen (fresh N T)) none
  empty_record q i h = rest (record_at q + i) (omega arith)

  fresh_words_held : Represents (fresh N T) after
  fresh_words_held =
      let l : length (zeros state_words) ≡ state_words = length-replicate {A = ℕ} state_words 0 in
      let l' : length (set (zeros state_words) capacity_at N) ≡ length (zeros state_words) = length-set (zeros state_words) capacity_at N in
      record {
        long = length-set (set (zeros state_words) capacity_at N) life_at T ∙ l' ∙ l;
        capacity =
            get_or-set_other (set (zeros state_words) capacity_at N) life_at capacity_at T 0 (λ e. omega arith)
            ∙ get_or-set_same (zeros state_words) capacity_at N 0 (omega arith);
        life = get_or-set_same (set (zeros state_words) capacity_at N) life_at T 0 (omega arith);
        clock = rest clock_at (omega arith);
        capacity_most = n_most;
        oldest_below = let e = rest oldest_at (omega arith) in omega arith;
        count_below = let e = rest count_at (omega arith) in omega arith;
        shows = empty_window after (oldest_of after) (count_of after) (rest count_at (omega arith));
        sound = fresh_sound N T n_least t_least;
        records = λ q h. subst (HoldsAt after q (oldest_of after) (count_of after) (seen (fresh N T))) (sym (none_at numbers q)) (empty_record q);
      }

  fresh_held : Represents (fresh N T) (words (fresh_memory N T))
  fresh_held = subst (Represents (fresh N T)) (sym fresh_words) fresh_words_held

-- ---- which starts are accepted

in_ranges_lem : (N T : ℕ) → in_ranges N T ≡ true → (1 ≤ N) × (N ≤ most_messages) × (1 ≤ T) × (T ≤ longest_life)
in_ranges_lem N T e =
    let p = and_true (ltb 0 N && leb N most_messages) (ltb 0 T && leb T longest_life) e in
    let n = and_true (ltb 0 N) (leb N most_messages) p.0 in
    let t = and_true (ltb 0 T) (leb T longest_life) p.1 in
    (ltb-true 0 N n.0, leb-true N most_messages n.1, ltb-true 0 T t.0, leb-true T longest_life t.1)

judged : (N T state : ℕ) {b : Bool} → b ≡ in_ranges N T → judge_start N T state ≡ cond b (cond (eqb state state_length) 0 12) 11
unfolding judge_start
judged N T state e = ap (λ (b : Bool). cond b (cond (eqb state state_length) 0 12) 11) (sym e)

accepted_within : (N T state : ℕ) → judge_start N T state ≡ 0 → in_ranges N T ≡ true
accepted_within N T state e = go (in_ranges N T) refl
  where
    go : (b : Bool) → b ≡ in_ranges N T → b ≡ true
    go true t = refl
    go false t = let z : ◌≡◌ {A = ℕ} 0 11 = sym e ∙ judged N T state t in absurd (omega arith)

module _ (N T : ℕ) (s : List ℕ) where
  pub out_of_range : in_ranges N T ≡ false → StartPost N T s 11 s
  out_of_range e = record {
    number = sym (judged N T (length s) (sym e));
    unchanged = λ _. refl;
    started = λ z. absurd (omega arith);
  }

  module _ (e : in_ranges N T ≡ true) where
    pub not_lent : (length s ≡ state_length → ⊥) → StartPost N T s 12 s
    not_lent l = record {
      number = sym (judged N T (length s) (sym e) ∙ rw (ne_eqb (length s) state_length l) refl);
      unchanged = λ _. refl;
      started = λ z. absurd (omega arith);
    }

    -- zeros, then N, then T
    pub start_right : length s ≡ state_length → {s₁ s₂ s₃ : List ℕ} → s₁ ≡ zeros state_length → s₂ ≡ put_word s₁ capacity_at N
        → s₃ ≡ put_word s₂ life_at T → StartPost N T s 0 s₃
    unfolding fresh_memory
    start_right l z n t = record {
      number = sym (judged N T (length s) (sym e) ∙ rw (eq-eqb (length s) state_length l) refl);
      unchanged = λ h. absurd (h refl);
      started = λ _. rw (t, n, z) refl;
    }

pub fresh_length : (N T : ℕ) → length (fresh_memory N T) ≡ state_length
unfolding fresh_memory
fresh_length N T =
    put_length (put_word (zeros state_length) capacity_at N) life_at T ∙ put_length (zeros state_length) capacity_at N ∙ length-replicate {A = ℕ} state_length 0

-- the memory that an accepted start left
pub started : (N T state : ℕ) → judge_start N T state ≡ 0 → Represents (fresh N T) (words (fresh_memory N T))
started N T state e = let r = in_ranges_lem N T (accepted_within N T state e) in fresh_held N T r.0 r.1 r.2 r.3
