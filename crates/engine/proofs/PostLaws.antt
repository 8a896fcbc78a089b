-- The promise of `frame`, from the answers of its parts. Assumes nothing.
use Prim.Native.Nat.{ℕ, zero, suc, ◌+◌, ◌-◌, ◌*◌, ◌≤◌, ◌<◌}
use native.Mathlib.Omega.{arith}
use mathlib.Core.Path.{◌≡◌, refl, sym, ap, ◌∙◌, subst}
use mathlib.Core.Bool.{Bool, true, false, cond, ◌&&◌}
use mathlib.Core.Logic.{⊎_elim}
use mathlib.Core.List.{List}
use lib.ListN.{length, get_or, take, drop}
use lib.Dec.{eqb}
use borrow.Author.Tests.{eq-eqb, ne_eqb, eqb-true, eqb-false}
use Rattle.std.specs.Prelude.{Result, Ok, Err}
use Rattle.paper.specs.declared.refusal.Refusal.{Refusal}
use Rattle.paper.specs.Refusal.{number_of}
use Rattle.paper.specs.Frame.{Frame, Shape, Valid, shape, numbers}
use Rattle.paper.specs.Frame.Shape.{refused, accepted}
use Rattle.paper.specs.Layout.{state_length, record_at, record_words}
use Rattle.paper.specs.Log.{Log, judge_shape, judge_frame, judge, accept, accept_shape, after, departures_shape, departures}
use Rattle.paper.specs.Demand3.{marked, marks_shape, marked_shape, marked_by, reply_to}
use Rattle.paper.proofs.FrameLaws.{shape_valid, shape_number}
use Rattle.memory.specs.Words.{words}
use Rattle.memory.proofs.WordLaws.{same_bytes}
use Rattle.query.specs.Record.{SameRecord}
use Rattle.engine.specs.declared.Reply.{Reply}
use Rattle.engine.specs.Told.{ToldReply, told_reply}
use Rattle.engine.specs.Represents.{Represents, keeping}
use Rattle.engine.specs.Post.{call_of, reply_of, record_bytes, FrameRight, FramePost}
use Rattle.engine.specs.Inner.{Did, Accepted}
use Rattle.engine.proofs.ToldLaws.{not_0}
use Rattle.engine.proofs.UnmarkedLaws.{unmarked_kept}

-- memory of the right length is judged by the frame's shape
judged : (s bytes : List ℕ) (log : Log) → length s ≡ state_length → judge 0 log (call_of s bytes) ≡ judge_shape log (shape bytes)
unfolding judge
judged s bytes log l = ap (λ (b : Bool). cond (b && true) (judge_shape log (shape bytes)) 12) (eq-eqb (length s) state_length l)

-- what the paper makes of a call with number n
module _ (s bytes : List ℕ) (log : Log) (n : ℕ) (e : judge 0 log (call_of s bytes) ≡ n) where
  replied : (r : ToldReply) → r.number ≡ n
      → r.marks ≡ cond (eqb n 0) (marks_shape log (keeping (words s)) (shape bytes)) 0
      → r.departures ≡ cond (eqb n 0) (departures_shape log (shape bytes)) 0
      → reply_of r ≡ reply_to 0 log (keeping (words s)) (call_of s bytes)
  unfolding reply_to departures
  replied r en em ed = rw e (λ i. record { number = en i; marks = em i; departures = ed i })

  log_after : after 0 log (call_of s bytes) ≡ cond (eqb n 0) (accept_shape log (shape bytes)) log
  unfolding after
  log_after = rw e

  marked_by_lem : (q : ℕ) → marked_by 0 log (keeping (words s)) (call_of s bytes) q
      ≡ cond (eqb n 0) (marked_shape log (keeping (words s)) (shape bytes) q) false
  unfolding marked_by
  marked_by_lem q = rw e

-- ---- a refusal leaves everything as it was

refused_right : (s bytes : List ℕ) (x : Refusal) (log : Log) → Represents log (words s) → judge 0 log (call_of s bytes) ≡ number_of x
    → FrameRight log s bytes (told_reply (Err x)) s
refused_right s bytes x log rep e =
    let no : eqb (number_of x) 0 ≡ false = not_0 x in
    record {
      reply =
          replied s bytes log (number_of x) e (told_reply (Err x)) refl
          (ap (λ (b : Bool). cond b (marks_shape log (keeping (words s)) (shape bytes)) 0) (sym no))
          (ap (λ (b : Bool). cond b (departures_shape log (shape bytes)) 0) (sym no));
      holds =
          subst (λ (l : Log). Represents l (words s))
          (sym (log_after s bytes log (number_of x) e ∙ ap (λ (b : Bool). cond b (accept_shape log (shape bytes)) log) no)) rep;
      untouched = λ q h m. (refl, refl);
    }

-- 1 to 6 and 14
pub misshapen : (s bytes : List ℕ) (x : Refusal) → length s ≡ state_length → shape bytes ≡ refused (number_of x)
    → FramePost s bytes (told_reply (Err x)) s
misshapen s bytes x l e = record {
  long = refl;
  not_lent = λ ne. absurd (ne l);
  shaped = λ k m f. cc;
  unchanged = λ h. (refl, refl, refl);
  right = λ log rep k. refused_right s bytes x log rep (judged s bytes log l ∙ ap (judge_shape log) e);
}

-- ---- a frame of one kind, judged by the history and taken in

module _ (s s' bytes : List ℕ) (f : Frame) (l : length s ≡ state_length) (long : length s' ≡ length s) (e : shape bytes ≡ accepted f)
    (bs : (i : ℕ) → get_or s i 0 < 256) (bs' : (i : ℕ) → get_or s' i 0 < 256) where
  -- equal words are equal bytes
  same_record : (q : ℕ) → q < numbers → SameRecord (words s) (words s') q → record_bytes s' q ≡ record_bytes s q
  same_record q h same =
      let w : record_at q + record_words ≡ record_at (suc q) = omega arith in
      let d : record_at (suc q) - record_at q ≡ record_words = omega arith in
      subst (λ (k : ℕ). take (4 * k) (drop (4 * record_at q) s') ≡ take (4 * k) (drop (4 * record_at q) s)) d
      (same_bytes s' s bs' bs (record_at q) (record_at (suc q)) (omega arith) (omega arith)
      (λ i a b.
      let x : record_at q + (i - record_at q) ≡ i = omega arith in
      subst (λ (j : ℕ). get_or (words s') j 0 ≡ get_or (words s) j 0) x (same (i - record_at q) (omega arith))))

  valid : Valid f
  valid = shape_valid bytes f e

  number : (log : Log) (n : ℕ) → n ≡ judge_frame log f → judge 0 log (call_of s bytes) ≡ n
  number log n ok = judged s bytes log l ∙ ap (judge_shape log) e ∙ sym ok

  taken : (r : Reply) (log : Log) → Represents log (words s) → 0 ≡ judge_frame log f → Accepted log f (words s) r (words s')
      → FrameRight log s bytes (told_reply (Ok r)) s'
  taken r log rep ok a =
      let none : judge 0 log (call_of s bytes) ≡ 0 = number log 0 ok in
      record {
        reply =
            replied s bytes log 0 none (told_reply (Ok r)) refl (a.marks ∙ ap (marks_shape log (keeping (words s))) (sym e))
            (a.departures ∙ ap (departures_shape log) (sym e));
        holds = subst (λ (x : Log). Represents x (words s')) (ap (accept_shape log) (sym e) ∙ sym (log_after s bytes log 0 none)) a.holds;
        untouched = λ q h m.
            let free : marked log (keeping (words s)) f q ≡ false =
            ap (λ (x : Shape). marked_shape log (keeping (words s)) x q) (sym e) ∙ sym (marked_by_lem s bytes log 0 none q) ∙ m in
            let same = a.untouched q h free in
            (same_record q h same, unmarked_kept log f (words s) (words s') q rep a.holds (sym ok) h free same);
      }

  pub done : (r : Result Reply Refusal) → Did f s r s' → FramePost s bytes (told_reply r) s'
  done (Ok x) did = record {
    long = long;
    not_lent = λ ne. absurd (ne l);
    shaped = λ k n h. let z : ◌≡◌ {A = ℕ} 0 1 = cc in absurd (omega arith);
    unchanged = λ h. absurd (h refl);
    right = λ log rep k. let d = did.right log rep valid in taken x log rep d.0 d.1;
  }
  done (Err x) did = record {
    long = long;
    not_lent = λ ne. absurd (ne l);
    shaped = λ k n h. let z : ◌≡◌ {A = ℕ} 0 1 = cc in absurd (omega arith);
    unchanged = λ h. (did.unchanged, refl, refl);
    right = λ log rep k.
        subst (FrameRight log s bytes (told_reply (Err x))) (sym did.unchanged)
        (refused_right s bytes x log rep (number log (number_of x) (did.right log rep valid).0));
  }
