-- A record that a frame leaves as it was keeps the same thresholds, candidates and list. Assumes nothing.
use Prim.Native.Nat.{ℕ, ◌<◌}
use mathlib.Core.Path.{◌≡◌, refl, sym, ap, ◌∙◌, subst}
use mathlib.Core.Bool.{false}
use mathlib.Core.List.{List, map}
use mathlib.Core.Option.{Option, none, some}
use lib.ListN.{length}
use lib.Seq.{get_or-set_other}
use borrow.Author.Tests.{eqb-false}
use Rattle.paper.specs.Frame.{Frame, numbers}
use Rattle.paper.specs.Frame.Frame.{message, tick, register, unregister, cancel}
use Rattle.paper.specs.Rank.{Query, serials}
use Rattle.paper.specs.Window.{Message}
use Rattle.paper.specs.Threshold.{candidates, reached}
use Rattle.paper.specs.Log.{Log, query_at, accept, judge_frame, seen, moved_for}
use Rattle.paper.specs.Sound.{Terms}
use Rattle.paper.specs.Demand3.{names, reached_by, marked}
use Rattle.paper.proofs.Tests.{or_false}
use Rattle.paper.proofs.LogLaws.{sees}
use Rattle.paper.proofs.ThresholdLaws.{same_candidates}
use Rattle.rank.specs.Listing.{shown}
use Rattle.query.specs.Record.{kept_of, thresholds, Holds, HoldsAt, SameRecord}
use Rattle.query.proofs.RecordLaws.{thresholds_same, keys_same}
use Rattle.engine.specs.Represents.{oldest_of, count_of, Represents, keeping}
use Rattle.engine.specs.Inner.{reached_in}
use Rattle.engine.proofs.RepresentsLaws.{query_terms, kept_none, kept_some, reached_by_lem}

module _ (w w' : List ℕ) (q : ℕ) (long : length w' ≡ length w) (same : SameRecord w w' q) where
  -- the same query with the same candidates
  same_kept : (o n o' n' : ℕ) (ms ms' : List Message) (x : Query) → Terms x → Holds w q o n ms x → Holds w' q o' n' ms' x
      → candidates x.terms (thresholds w q (length x.terms)) ms ≡ candidates x.terms (thresholds w q (length x.terms)) ms'
      → kept_of w' q o' n' (length x.terms) ≡ kept_of w q o n (length x.terms)
  same_kept o n o' n' ms ms' x t h h' c =
      let hs : thresholds w' q (length x.terms) ≡ thresholds w q (length x.terms) = thresholds_same w w' q long same (length x.terms) t.terms.at_most in
      let those : (kept_of w' q o' n' (length x.terms)).candidates ≡ (kept_of w q o n (length x.terms)).candidates =
      h'.settled.above
      ∙ ap (λ (u : List ℕ). serials (candidates x.terms u ms')) hs
      ∙ ap serials (sym c)
      ∙ sym h.settled.above in
      λ i. record { thresholds = hs i; candidates = those i; list = map shown (keys_same w w' q long same i) }

-- a frame that doesn't name a number leaves its query
query_stays : (log : Log) (f : Frame) (q : ℕ) → names f q ≡ false → query_at (accept log f) q ≡ query_at log q
unfolding accept
query_stays log (message t s g ps) q e = refl
query_stays log (tick t) q e = refl
query_stays log (register t m k ps) q e = get_or-set_other log.queries m q (some (record { k = k; terms = ps })) none (λ h. eqb-false m q e (sym h))
query_stays log (unregister t m) q e = get_or-set_other log.queries m q none none (λ h. eqb-false m q e (sym h))
query_stays log (cancel t s) q e = refl

-- what an accepted frame leaves unmarked is kept as it was
pub unmarked_kept : (log : Log) (f : Frame) (w w' : List ℕ) (q : ℕ) → Represents log w → Represents (accept log f) w' → judge_frame log f ≡ 0
    → q < numbers → marked log (keeping w) f q ≡ false → SameRecord w w' q → keeping w' q ≡ keeping w q
unfolding marked
unmarked_kept log f w w' q r r' ok h e same =
    go (query_at log q) refl (r.records q h) (subst (HoldsAt w' q (oldest_of w') (count_of w') ms') (query_stays log f q parts.0) (r'.records q h))
    (sym (reached_by_lem log w q (moved_for log f) r h) ∙ parts.1)
  where
    parts : (names f q ≡ false) × (reached_by (query_at log q) (keeping w q) (moved_for log f) ≡ false)
    parts = or_false (names f q) (reached_by (query_at log q) (keeping w q) (moved_for log f)) e

    ms' : Query → List Message
    ms' = seen (accept log f)

    go : (x : Option Query) → query_at log q ≡ x → HoldsAt w q (oldest_of w) (count_of w) (seen log) x → HoldsAt w' q (oldest_of w') (count_of w') ms' x
        → reached_in w q x (moved_for log f) ≡ false → keeping w' q ≡ keeping w q
    go none y a b u = kept_none w' q ms' b ∙ sym (kept_none w q (seen log) a)
    go (some x) y a b u =
        let t : Terms x = query_terms log.queries q x r.sound.queries y in
        let hs = thresholds w q (length x.terms) in
        let s = sees log f x r.sound ok in
        let c : candidates x.terms hs (seen log x) ≡ candidates x.terms hs (ms' x) =
        same_candidates x.terms hs s.come s.before (ap (reached x.terms hs) (sym s.moved) ∙ u)
        ∙ ap (candidates x.terms hs) (sym s.after) in
        kept_some w' q ms' x t b
        ∙ ap some (same_kept w w' q (r'.long ∙ sym r.long) same (oldest_of w) (count_of w) (oldest_of w') (count_of w') (seen log x) (ms' x) x t a b c)
        ∙ sym (kept_some w q (seen log) x t a)
