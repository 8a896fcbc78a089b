-- Laws of the answers to a frame, to a list reading, to a search and to a closeness: what a host hears of the words that were written. Assumes nothing.
use Prim.Native.Nat.{ℕ, zero, suc, ◌+◌, ◌≤◌, ◌*◌}
use native.Mathlib.Omega.{arith}
use mathlib.Core.Path.{◌≡◌, refl, sym, ap, ◌∙◌, subst}
use mathlib.Core.Logic.{inl}
use mathlib.Core.List.{List, [], ◌∷◌, ◌++◌, append_assoc}
use mir.Syntax.{w32}
use mir.Val.{Fits}
use lib.ListN.{length, get_or, set, take, drop, replicate, length-append, length-drop, take-append-drop, length-set}
use lib.Seq.{take_all, take_at, drop_at, length-take-le, get_or-append-add, get_or-drop, get_or-set_same, get_or-set_other, ext_get_or}
use Rattle.std.specs.Prelude.{Ok}
use Rattle.paper.specs.Frame.{most_listed}
use Rattle.memory.specs.Words.{big_words, put_big}
use Rattle.memory.specs.Keeps.{Keeps, Stored}
use Rattle.memory.proofs.WordLaws.{put_big_lem, put_big_length, big_words_length, big_append}
use Rattle.memory.proofs.KeepsLaws.{keeps_trans, keeps_wider, keeps_part, big_keeps}
use Rattle.rank.specs.declared.Lines.{Lines}
use Rattle.closeness.specs.declared.Closeness.{Closeness}
use Rattle.engine.specs.declared.Reply.{Reply}
use Rattle.engine.specs.declared.Searched.{Searched}
use Rattle.engine.specs.Told.{ToldReply, told_reply, ToldList, told_list, told_search, told_closeness}
use Rattle.engine.specs.Post.{FramePost, ListPost, SearchPost, ClosenessPost}
use Rattle.fennelrake.specs.Entry.{frame_answer, list_answer, search_answer, closeness_answer, FrameEntry, ListEntry, SearchEntry, ClosenessEntry}
use Rattle.fennelrake.specs.Entry.{Output, heard_reply, heard_list, heard_listing, heard_search, heard_closeness}

-- two words are written
record Two (x y : ℕ) (a a' : List ℕ) : Type 0 where
  first : get_or (big_words a') 0 0 ≡ x
  second : get_or (big_words a') 1 0 ≡ y
  output : Output 8 0 a a'

two_words : {x y : ℕ} (a a₁ a₂ : List ℕ) → 8 ≤ length a → Fits w32 x → Fits w32 y → a₁ ≡ put_big a 0 x → a₂ ≡ put_big a₁ 1 y → Two x y a a₂
two_words {x} {y} a a₁ a₂ h fx fy e₁ e₂ = record {
  first =
      rw put_two (get_or-set_other (set (big_words a) 0 x) 1 0 y 0 (omega arith) ∙ get_or-set_same (big_words a) 0 x 0 (omega (arith, big_words_length a)));
  second = rw put_two (get_or-set_same (set (big_words a) 0 x) 1 y 0 (omega (arith, length-set (big_words a) 0 x, big_words_length a)));
  output = record { long = kept.long; past = past; refused = λ nz. absurd (nz refl) };
}
  where
    put_two : big_words a₂ ≡ set (set (big_words a) 0 x) 1 y
    put_two =
        rw (e₂, e₁)
        (put_big_lem (put_big a 0 x) 1 y (omega (arith, put_big_length a 0 x)) fy.fits
        ∙ ap (λ (w : List ℕ). set w 1 y) (put_big_lem a 0 x (omega arith) fx.fits))

    kept : Keeps 0 8 a a₂
    kept =
        rw (e₂, e₁)
        (keeps_trans (keeps_wider (omega arith) (omega arith) (big_keeps a 0 x)) (keeps_wider (omega arith) (omega arith) (big_keeps (put_big a 0 x) 1 y)))

    past : drop 8 a₂ ≡ drop 8 a
    past =
        ext_get_or 0 (drop 8 a₂) (drop 8 a) (simp length-drop (omega (arith, kept.long)))
        (λ i k. simp get_or-drop (kept.above (8 + i) (omega arith)))

-- ---- frame

pub frame_accepted : {s bytes a a₁ a₂ s' : List ℕ} (r : Reply) → frame_answer ≤ length a → Fits w32 r.marks → Fits w32 r.departures
    → a₁ ≡ put_big a 0 r.marks → a₂ ≡ put_big a₁ 1 r.departures → FramePost s bytes (told_reply (Ok r)) s' → FrameEntry s bytes a 0 s' a₂
frame_accepted {s} {bytes} {a} {a₁} {a₂} {s'} r h fm fd e₁ e₂ p =
    let two = two_words a a₁ a₂ h fm fd e₁ e₂ in
    let same : told_reply (Ok r) ≡ heard_reply 0 a₂ = λ i. record { number = 0; marks = sym two.first i; departures = sym two.second i } in
    record {
      short = λ k. absurd (omega arith);
      enough = λ _. subst (λ (x : ToldReply). FramePost s bytes x s') same p;
      output = two.output;
    }

-- ---- list

-- the words of a list answer are the first, the serials and the scores
in_three : (w : List ℕ) → 4 * length w ≡ list_answer → w ≡ get_or w 0 0 ∷ (take most_listed (drop 1 w) ++ take most_listed (drop (1 + most_listed) w))
in_three [] h = absurd (omega arith)
in_three (x ∷ w) h = rw (take_all most_listed (drop most_listed w) (simp length-drop (omega arith)), take-append-drop most_listed w)

-- the number of entries, the serials and the scores are written
pub list_words : (a : List ℕ) {a₁ w₂ w₃ serials scores : List ℕ} {count : ℕ} → length a ≡ list_answer → Fits w32 count → a₁ ≡ put_big a 0 count
    → Stored 1 most_listed serials (big_words a₁) w₂ → Stored (1 + most_listed) most_listed scores w₂ w₃ → w₃ ≡ count ∷ (serials ++ scores)
list_words a {a₁} {w₂} {w₃} {serials} {scores} {count} l f e p q =
    let w₁ : big_words a₁ ≡ set (big_words a) 0 count = rw e (put_big_lem a 0 count (omega arith) f.fits) in
    let long : 4 * length (big_words a₁) ≡ list_answer = rw w₁ (omega (arith, length-set (big_words a) 0 count, big_words_length a)) in
    let first : get_or w₃ 0 0 ≡ count =
    q.keeps.below 0 (omega arith) ∙ p.keeps.below 0 (omega arith) ∙ rw w₁ (get_or-set_same (big_words a) 0 count 0 (omega (arith, big_words_length a))) in
    let second : take most_listed (drop 1 w₃) ≡ serials = keeps_part q.keeps 1 most_listed (inl (omega arith)) ∙ p.reads in
    in_three w₃ (omega (arith, q.keeps.long, p.keeps.long)) ∙ rw (first, second, q.reads)

module _ (part a : List ℕ) (l : Lines) (lp : length part ≡ list_answer) (ls : length l.serials ≡ most_listed) (lc : length l.scores ≡ most_listed)
    (e : big_words part ≡ l.count ∷ (l.serials ++ l.scores)) where
  heard_list_lem : l ≡ heard_list (big_words (part ++ drop list_answer a))
  heard_list_lem =
      let ss : List ℕ = l.serials in
      let cs : List ℕ = l.scores in
      let rest : List ℕ = big_words (drop list_answer a) in
      let first : take most_listed ((ss ++ cs) ++ rest) ≡ ss = rw append_assoc (take_at ss (cs ++ rest) most_listed ls) in
      let second : take most_listed (drop most_listed ((ss ++ cs) ++ rest)) ≡ cs =
      rw (append_assoc, drop_at ss (cs ++ rest) most_listed ls) (take_at cs rest most_listed lc) in
      rw (big_append part (drop list_answer a) (rw lp), e) (λ i. record { serials = sym first i; scores = sym second i; count = l.count })

module _ (part a : List ℕ) (l : Lines) (h : list_answer ≤ length a) (lp : length part ≡ list_answer) (ls : length l.serials ≡ most_listed)
    (lc : length l.scores ≡ most_listed) (e : big_words part ≡ l.count ∷ (l.serials ++ l.scores)) where
  pub list_accepted : {s : List ℕ} {n : ℕ} → ListPost s n (told_list (Ok l)) → ListEntry s n a 0 (part ++ drop list_answer a)
  list_accepted {s} {n} p =
      record {
        short = λ k. absurd (omega arith);
        enough = λ _. subst (λ (x : ToldList). ListPost s n x) same p;
        output = record {
          long = simp (length-append, length-drop) (omega arith);
          past = drop_at part (drop list_answer a) list_answer lp;
          refused = λ nz. absurd (nz refl);
        };
      }
    where
      same : told_list (Ok l) ≡ heard_listing 0 (part ++ drop list_answer a)
      same = λ i. record { number = 0; list = heard_list_lem part a l lp ls lc e i }

-- ---- search

-- the word after a list's answer
word_past : (p b : List ℕ) → length p ≡ list_answer → get_or (big_words (p ++ b)) (1 + 2 * most_listed) 0 ≡ get_or (big_words b) 0 0
word_past p b l =
    let n : length (big_words p) + 0 ≡ 1 + 2 * most_listed = omega (arith, big_words_length p) in
    rw (big_append p b (rw l), ← n) (get_or-append-add (big_words p) (big_words b) 0 0)

-- the postings read are written, and then a list's answer before them
module _ (part a a₁ : List ℕ) (r : Searched) (h : search_answer ≤ length a) (fr : Fits w32 r.read) (e₁ : a₁ ≡ put_big a (1 + 2 * most_listed) r.read)
    (lp : length part ≡ list_answer) (ls : length r.list.serials ≡ most_listed) (lc : length r.list.scores ≡ most_listed)
    (e : big_words part ≡ r.list.count ∷ (r.list.serials ++ r.list.scores)) where
  abbrev whole : List ℕ
  whole = part ++ drop list_answer a₁

  kept : Keeps list_answer search_answer a a₁
  kept = rw e₁ (keeps_wider (omega arith) (omega arith) (big_keeps a (1 + 2 * most_listed) r.read))

  long : length whole ≡ length a
  long = simp (length-append, length-drop) (omega (arith, kept.long))

  heard_read : get_or (big_words whole) (1 + 2 * most_listed) 0 ≡ r.read
  heard_read =
      word_past part (drop list_answer a₁) lp
      ∙ sym (word_past (take list_answer a₁) (drop list_answer a₁) (length-take-le list_answer a₁ (omega (arith, kept.long))))
      ∙ ap (λ (x : List ℕ). get_or (big_words x) (1 + 2 * most_listed) 0) (take-append-drop list_answer a₁)
      ∙ rw (e₁, put_big_lem a (1 + 2 * most_listed) r.read (omega arith) fr.fits)
      (get_or-set_same (big_words a) (1 + 2 * most_listed) r.read 0 (omega (arith, big_words_length a)))

  past : drop search_answer whole ≡ drop search_answer a
  past =
      ext_get_or 0 (drop search_answer whole) (drop search_answer a) (simp length-drop (omega (arith, long)))
      (λ i _. simp get_or-drop
      (let n : length part + (4 + i) ≡ search_answer + i = omega arith in
      rw (← n) (get_or-append-add part (drop list_answer a₁) (4 + i) 0)
      ∙ get_or-drop list_answer a₁ (4 + i) 0
      ∙ kept.above (list_answer + (4 + i)) (omega arith)
      ∙ ap (λ (k : ℕ). get_or a k 0) (omega arith)))

  pub search_accepted : {s bytes : List ℕ} → SearchPost s bytes (told_search (Ok r)) → SearchEntry s bytes a 0 whole
  search_accepted {s} {bytes} p =
      record {
        short = λ k. absurd (omega arith);
        enough = λ _. subst (SearchPost s bytes) same p;
        output = record { long = long; past = past; refused = λ nz. absurd (nz refl) };
      }
    where
      same : told_search (Ok r) ≡ heard_search 0 whole
      same = λ i. record { number = 0; list = heard_list_lem part a₁ r.list lp ls lc e i; read = sym heard_read i }

-- ---- closeness

pub closeness_accepted : {s a a₁ a₂ : List ℕ} {serial n : ℕ} (r : Closeness) → closeness_answer ≤ length a → Fits w32 r.quotient → Fits w32 r.remainder
    → a₁ ≡ put_big a 0 r.quotient → a₂ ≡ put_big a₁ 1 r.remainder → ClosenessPost s serial n (told_closeness (Ok r)) → ClosenessEntry s serial n a 0 a₂
closeness_accepted {s} {a} {a₁} {a₂} {serial} {n} r h fq fr e₁ e₂ p =
    let two = two_words a a₁ a₂ h fq fr e₁ e₂ in
    let same : told_closeness (Ok r) ≡ heard_closeness 0 a₂ = λ i. record { number = 0; quotient = sym two.first i; remainder = sym two.second i } in
    record {
      short = λ k. absurd (omega arith);
      enough = λ _. subst (ClosenessPost s serial n) same p;
      output = two.output;
    }
