-- DEMAND 3, proved: one theorem over whole lists of frames. Its statement is in specs/Demand3.antt. Assumes nothing.
use Prim.Native.Nat.{ℕ}
use mathlib.Core.Path.{◌≡◌, refl, sym, ap, ap₂, ◌∙◌, subst}
use mathlib.Core.List.{List, [], ◌∷◌}
use lib.ListN.{length}
use Rattle.paper.specs.Layout.{state_length}
use Rattle.paper.specs.Log.{Log, Call, fresh, after, replay}
use Rattle.paper.specs.Demand3.{Answered}
use Rattle.paper.proofs.MarkLaws.{answered_by_log}
use Rattle.memory.specs.Words.{words}
use Rattle.engine.specs.Represents.{Represents, keeping}
use Rattle.engine.specs.Post.{call_of, reply_of, StartPost, FrameRight}
use Rattle.engine.specs.Demand3.{Frames, calls_of, log_of, Demand3}
use Rattle.engine.specs.Demand3.Frames.{none_left, handed}
use Rattle.engine.proofs.RepresentsLaws.{all_settled}
use Rattle.engine.proofs.StartLaws.{started, fresh_length}

-- a call is decided by the bytes and the memory's length
call_same : (s s' bytes : List ℕ) → length s' ≡ length s → call_of s' bytes ≡ call_of s bytes
call_same s s' bytes e = λ i. record { bytes = bytes; state = e i; output = 0 }

calls_same : (s s' : List ℕ) (frames : List (List ℕ)) → length s' ≡ length s → calls_of s' frames ≡ calls_of s frames
calls_same s s' [] e = refl
calls_same s s' (bytes ∷ more) e = ap₂ {C = List Call} (λ c cs. c ∷ cs) (call_same s s' bytes e) (calls_same s s' more e)

-- whatever frames are handed, the memory holds the log of them
holds : {s s' : List ℕ} {frames : List (List ℕ)} (log : Log) → Represents log (words s) → length s ≡ state_length → Frames s frames s'
    → Represents (replay 0 log (calls_of s frames)) (words s') × (length s' ≡ state_length)
unfolding replay
holds log r l none_left = (r, l)
holds log r l (handed {s = s} {s' = s'} {s'' = s''} {bytes = bytes} {more = more} x p rest) =
    let right = p.right log r l in
    let h = holds (after 0 log (call_of s bytes)) right.holds (p.long ∙ l) rest in
    (subst (λ (cs : List Call). Represents (replay 0 (after 0 log (call_of s bytes)) cs) (words s'')) (calls_same s s' more p.long) h.0, h.1)

module _ (N T : ℕ) (s₀ s : List ℕ) (n : ℕ) (start : StartPost N T s₀ n s) (ok : n ≡ 0) where
  -- the memory that the accepted start left
  pub begun : Represents (fresh N T) (words s)
  begun = subst (λ (x : List ℕ). Represents (fresh N T) (words x)) (sym (start.started ok)) (started N T (length s₀) (sym start.number ∙ ok))

  pub begun_long : length s ≡ state_length
  begun_long = ap length (start.started ok) ∙ fresh_length N T

  -- DEMAND 3
  pub demand3 : {s' : List ℕ} {frames : List (List ℕ)} → Frames s frames s' → Demand3 N T s frames s'
  demand3 {s'} {frames} handed-all =
      let h = holds (fresh N T) begun begun_long handed-all in
      record {
        settled = all_settled (log_of N T s frames) (words s') h.0;
        readings = λ q r p.
            let t = p.right (log_of N T s frames) h.0 h.1 in
            rw (← h.1) (t.0, t.1, t.2);
        postings = λ t out r out' p.
            let x = p.right (log_of N T s frames) h.0 h.1 in
            rw (← h.1) (x.0, x.1, λ z. ((p.refused z).1, (p.refused z).0));
        searches = λ bytes r p.
            let x = p.right (log_of N T s frames) h.0 in
            rw (← h.1) (p.number, x.0, x.1, p.tidy);
        closenesses = λ serial q r p.
            let x = p.right (log_of N T s frames) h.0 h.1 in
            rw (← h.1) (x.0, x.1);
        screens = λ B out r out' p.
            let x = p.right (log_of N T s frames) h.0 in
            rw (← h.1) (p.number, x.0, x.1);
        last = λ first bytes r s₁ e before p.
            let b = holds (fresh N T) begun begun_long before in
            let f : FrameRight (log_of N T s first) s₁ bytes r s' = p.right (log_of N T s first) b.0 b.1 in
            subst (λ (c : Call). Answered 0 (log_of N T s first) (keeping (words s₁)) c (reply_of r) (keeping (words s')))
            (call_same s s₁ bytes (b.1 ∙ sym begun_long))
            (answered_by_log 0 (log_of N T s first) (keeping (words s₁)) (call_of s₁ bytes) (reply_of r) (keeping (words s'))
            (all_settled (log_of N T s first) (words s₁) b.0)
            f.reply
            (λ q l u. (f.untouched q l u).1));
      }
