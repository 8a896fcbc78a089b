-- The history's answers to registering and dropping: 9, 10, or the frame taken in. Assumes nothing.
use Prim.Native.Nat.{ℕ, ◌+◌, ◌%◌, ◌≤◌, ◌<◌, ◌^◌}
use native.Mathlib.Omega.{arith}
use mathlib.Core.Path.{◌≡◌, refl, sym, ap, ◌∙◌, subst₂}
use mathlib.Core.Bool.{Bool, true, false, cond, not}
use mathlib.Core.List.{List}
use mathlib.Core.Option.{Option, none, some}
use lib.ListN.{get_or}
use lib.Dec.{eqb}
use Rattle.paper.specs.Frame.{Pair, numbers}
use Rattle.paper.specs.Frame.Frame.{register, unregister}
use Rattle.paper.specs.Rank.{Query}
use Rattle.paper.specs.Layout.{record_at, clock_at}
use Rattle.paper.specs.Log.{Log, query_at, is_in_use, judge_frame}
use Rattle.memory.specs.Words.{words}
use Rattle.window.specs.Cursor.{Loaded}
use Rattle.query.specs.Post.{Registered, Cleared}
use Rattle.std.specs.Prelude.{Ok, Err}
use Rattle.paper.specs.declared.refusal.Refusal.TheVariants.{NotInUse}
use Rattle.engine.specs.declared.Reply.{Reply}
use Rattle.engine.specs.Represents.{Represents}
use Rattle.engine.specs.Inner.{Did, Ticked}
use Rattle.engine.proofs.RepresentsLaws.{used}
use Rattle.engine.proofs.KindLaws.{refused_by, judged_kind}
use Rattle.engine.proofs.RegisterLaws.{registered_accepted, without_held, dropped_accepted}

unused : (x : Option Query) → is_in_use x ≡ false → x ≡ none
unused none e = refl
unused (some x) e = let z : ◌≡◌ {A = Bool} true false = e in absurd (mathlib.Core.Bool.true≢false z)

not_late : (s : List ℕ) {clock t : ℕ} → clock ≡ get_or (words s) clock_at 0 → clock ≤ t → (log : Log) → Represents log (words s) → log.clock ≤ t
not_late s e h log r = let k = r.clock in omega arith

module _ {s : List ℕ} {clock t p : ℕ} {b : Bool} (e : clock ≡ get_or (words s) clock_at 0) (h : clock ≤ t) (below : p < numbers)
    (u : b ≡ not (eqb (get_or (words s) (record_at p) 0) 0)) where
  -- 10: "dropping .. a number not in use"
  pub number_free : b ≡ false → Did (unregister t p) s (Err NotInUse) s
  number_free y =
      refused_by (unregister t p)
      (λ log r v. judged_kind log (unregister t p) (not_late s e h log r) ∙ ap (λ (x : Bool). cond {A = ℕ} x 0 10) (used log (words s) p r below u ∙ y))

  pub register_done : {k : ℕ} {ps : List Pair} {s' w₁ : List ℕ} {ticked reply : Reply} {clock₁ o n : ℕ} → t < 2 ^ 32 → b ≡ false → Ticked t (words s) ticked w₁
      → Loaded w₁ clock₁ o n → Registered w₁ p o n (record { k = k; terms = ps }) (words s')
      → reply.marks ≡ (ticked.marks + 2 ^ p) % 2 ^ 32 → reply.departures ≡ ticked.departures → Did (register t p k ps) s (Ok reply) s'
  register_done {k} {ps} {s'} {w₁} {ticked} {reply} {clock₁} {o} {n} small y tk loaded g em ed = record {
    unchanged = tt;
    right = λ log r v.
        let ok : judge_frame log (register t p k ps) ≡ 0 =
        judged_kind log (register t p k ps) (not_late s e h log r) ∙ ap (λ (x : Bool). cond {A = ℕ} x 9 0) (used log (words s) p r below u ∙ y) in
        let a = tk.right log r small (not_late s e h log r) in
        let g' = subst₂ (λ (x z : ℕ). Registered w₁ p x z (record { k = k; terms = ps }) (words s'))
        (loaded.oldest_is a.holds.oldest_below) (loaded.count_is a.holds.count_below) g in
        let free = unused (query_at log p) (used log (words s) p r below u ∙ y) in
        (sym ok, registered_accepted t p k ps log (words s) w₁ (words s') r v ok free ticked reply a g' em ed);
  }

  pub unregister_done : {s' w₁ : List ℕ} {ticked reply : Reply} → t < 2 ^ 32 → b ≡ true → Cleared (words s) p w₁ → Ticked t w₁ ticked (words s')
      → reply.marks ≡ (ticked.marks + 2 ^ p) % 2 ^ 32 → reply.departures ≡ ticked.departures → Did (unregister t p) s (Ok reply) s'
  unregister_done {s'} {w₁} {ticked} {reply} small y c tk em ed = record {
    unchanged = tt;
    right = λ log r v.
        let ok : judge_frame log (unregister t p) ≡ 0 =
        judged_kind log (unregister t p) (not_late s e h log r) ∙ ap (λ (x : Bool). cond {A = ℕ} x 0 10) (used log (words s) p r below u ∙ y) in
        let held = without_held t p log (words s) w₁ (words s') r c below in
        (sym ok, dropped_accepted t p log (words s) w₁ (words s') r c below ticked reply (tk.right _ held small (not_late s e h log r)) em ed);
  }
