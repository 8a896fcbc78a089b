-- A round, and round after round: what is written, and what is left to be written, is the screen. Assumes nothing.
use Prim.Native.Nat.{ℕ, zero, suc, ◌+◌, ◌*◌, ◌-◌, ◌≤◌, ◌<◌, min}
use native.Mathlib.Nat.{not-suc-le-zero, le_of_suc-le-suc}
use native.Mathlib.Numerals.{add-one}
use native.Mathlib.Omega.{arith}
use mathlib.Core.Path.{◌≡◌, refl, sym, ap, ap₂, ◌∙◌, subst}
use mathlib.Core.Bool.{true, false}
use mathlib.Core.Logic.{◌⊎◌, inl, inr, ⊎_elim}
use mathlib.Core.List.{List, [], ◌∷◌, ◌++◌, map, map-map, map-append, append-nil, append_assoc}
use lib.ListN.{length, get_or, take, drop, length-append, get_or-append, length-take, length-drop, length-map, drop_of_length-le}
use lib.Seq.{take_all, take-append-le, take-suc, take-take, get_or-take, length-take-le, drop-cons, drop-drop}
use lib.Dec.{leb}
use borrow.Author.Tests.{ltb-true, ltb-false, leb-true, leb-false}
use borrow.Rule.Slice.PartMut.{put_mid}
use Rattle.paper.specs.Frame.{numbers, most_listed}
use Rattle.paper.specs.Rank.{Line}
use Rattle.paper.specs.Order.{In}
use Rattle.paper.specs.Sort.{select}
use Rattle.paper.specs.Screen.{Queue, ScreenLine, round, served, longest, screen, upward, screen_line_length}
use Rattle.paper.proofs.Tests.{by_bool}
use Rattle.paper.proofs.SortLaws.{select_in, take_map}
use Rattle.paper.proofs.ScreenLaws.{screen_round, screen_none, screen_skip}
use Rattle.memory.specs.Words.{big_bytes}
use Rattle.rank.specs.Listing.{line_with, shown}
use Rattle.query.specs.Record.{keys, list, listed_at}
use Rattle.query.proofs.PlaceLaws.{keys_most}
use Rattle.screen.specs.Lines.{screen_line_bytes, screen_bytes, lines_into}
use Rattle.screen.specs.Post.{queue_after, waits, line_after, all_queues, StillWaiting, Shared}
use Rattle.screen.proofs.LineLaws.{lines_length, lines_put}
use Rattle.screen.proofs.WaitLaws.{Known, all_known}

-- ---- a round

-- the lines of the first j queries are written
pub record WritingRound (w : List ℕ) (i : ℕ) (qs out₀ out : List ℕ) (j : ℕ) : Type 0 where
  pub bound : j ≤ length qs
  pub long : length out ≡ length out₀
  pub lines : out ≡ lines_into (map (line_after w i) (take j qs)) out₀

pub writing_none : {w : List ℕ} {i : ℕ} {qs out : List ℕ} {j : ℕ} → j ≡ 0 → WritingRound w i qs out out j
unfolding screen_bytes
writing_none z = rw z (record { bound = omega arith; long = refl; lines = refl })

module _ {w : List ℕ} {i : ℕ} {qs out₀ out : List ℕ} {j : ℕ} (room : screen_line_length * length qs ≤ length out₀) (h : j < length qs)
    (p : WritingRound w i qs out₀ out j) where
  -- the part of the next line
  abbrev at : ℕ
  at = screen_line_length * j

  abbrev size : ℕ
  size = at + screen_line_length - at

  pub writing_more : {q s c : ℕ} {part : List ℕ} → q ≡ get_or qs j 0 → line_with s c ≡ listed_at w q i
      → part ≡ screen_line_bytes (record { number = q; entry = line_with s c })
      → WritingRound w i qs out₀ (put_mid at size out part) (j + 1)
  unfolding screen_bytes big_bytes
  writing_more {q} {s} {c} {part} is entry bytes =
      let ps : List ScreenLine = map (line_after w i) (take j qs) in
      let x : ScreenLine = line_after w i q in
      let count : length ps ≡ j = length-map (take j qs) (line_after w i) ∙ length-take-le j qs (omega arith) in
      let short : length (take size (drop at out)) ≤ screen_line_length = simp length-take (omega arith) in
      let here : part ≡ lines_into (x ∷ []) (take size (drop at out)) =
      rw (drop_of_length-le (take size (drop at out)) short) (bytes ∙ ap (λ (y : Line). screen_line_bytes (record { number = q; entry = y })) entry) in
      let lines : put_mid at size out part ≡ lines_into (map (line_after w i) (take (j + 1) qs)) out₀ =
      lines_put ps (x ∷ []) out₀ at size p.lines (omega arith) (omega arith) (omega (arith, p.long)) here
      ∙ ap (λ (l : List ScreenLine). lines_into l out₀)
      (sym (ap (map (line_after w i)) (ap (λ (m : ℕ). take m qs) (add-one j) ∙ take-suc qs j 0 (omega arith) ∙ ap (λ (y : ℕ). take j qs ++ y ∷ []) (sym is))
      ∙ map-append (line_after w i) (take j qs) (q ∷ []))) in
      record {
        bound = omega arith;
        long = ap length lines ∙ lines_length (map (line_after w i) (take (j + 1) qs)) out₀ (simp (length-map, length-take) (omega arith));
        lines = lines;
      }

-- ---- round after round

-- an element of a list
in_get_d : {A : Type 0} (d : A) (l : List A) (j : ℕ) → j < length l → In (get_or l j d) l
in_get_d d [] j h = absurd (not-suc-le-zero h)
in_get_d d (x ∷ l) zero h = inl refl
in_get_d d (x ∷ l) (suc j) h = inr (in_get_d d l j (le_of_suc-le-suc h))

-- the first of the first
take_lesser : {A : Type 0} (m n : ℕ) (l : List A) → take m (take n l) ≡ take (min n m) l
take_lesser m n l = by_bool (leb m n) (λ e. less (leb-true m n e)) (λ e. more (leb-false m n e))
  where
    less : m ≤ n → take m (take n l) ≡ take (min n m) l
    less h = let e : min n m ≡ m = omega arith in rw e (take-take m n l h)

    more : n < m → take m (take n l) ≡ take (min n m) l
    more h = let e : min n m ≡ n = omega arith in rw e (take_all m (take n l) (simp length-take (omega arith)))

screen_nobody : (B : ℕ) → screen B [] ≡ []
unfolding longest
screen_nobody B = screen_none B [] refl

screen_zero : (qs : List Queue) → screen 0 qs ≡ []
unfolding screen
screen_zero qs = refl

-- what the records show of a query after i rounds
module _ (w : List ℕ) (i : ℕ) where
  list_length : (q : ℕ) → length (list w q) ≡ length (keys w q)
  list_length q = length-map (keys w q) shown

  -- one that doesn't wait has no entry
  no_entry_lem : (q : ℕ) → waits w i q ≡ false → (queue_after w i q).unplaced ≡ []
  no_entry_lem q e = drop_of_length-le (list w q) (let h : length (list w q) ≤ i = omega (arith, list_length q, ltb-false i (length (keys w q)) e) in h)

  -- a round of those that wait is a line for each
  round_lines : (ns : List ℕ) → ((q : ℕ) → In q ns → waits w i q ≡ true) → round (map (queue_after w i) ns) ≡ map (line_after w i) ns
  unfolding round
  round_lines [] h = refl
  round_lines (q ∷ ns) h =
      let some : i < length (list w q) = omega (arith, list_length q, ltb-true i (length (keys w q)) (h q (inl refl))) in
      rw (drop-cons (list w q) i (line_with 0 0) some, round_lines ns (λ x m. h x (inr m)))

  -- and leaves them as they are after it
  served_next : (ns : List ℕ) → map served (map (queue_after w i) ns) ≡ map (queue_after w (i + 1)) ns
  served_next ns = map-map served (queue_after w i) ns ∙ (λ k. map (λ q. record { number = q; unplaced = drop-drop 1 i (list w q) k }) ns)

-- after all rounds no query has an entry
ended : (w : List ℕ) {i : ℕ} (ns : List ℕ) → most_listed ≤ i → longest (map (queue_after w i) ns) ≡ 0
unfolding longest
ended w [] h = refl
ended w {i} (q ∷ ns) h =
    let e = length-drop i (list w q) in
    omega (arith, ended w ns h, list_length w i q, keys_most w q)

-- `done` is written, and with what is left to be written it is the screen
pub record Sharing (w : List ℕ) (B : ℕ) (out₀ out : List ℕ) (ns : List ℕ) (count placed i : ℕ) : Type 0 where
  pub known : Known ns count
  pub most : placed ≤ B
  pub rounds : i ≤ most_listed
  pub long : length out ≡ length out₀
  done : List ScreenLine
  written : placed ≡ length done
  lines : out ≡ lines_into done out₀
  rest : done ++ screen (B - placed) (map (queue_after w i) (take count ns)) ≡ screen B (all_queues w)

pub sharing_none : {w : List ℕ} {B : ℕ} {out ns : List ℕ} {count placed i : ℕ} → count ≡ numbers → placed ≡ 0 → i ≡ 0 → ns ≡ upward 0 numbers
    → Sharing w B out out ns count placed i
unfolding screen_bytes
sharing_none {B = B} {ns = ns} x z y k =
    let e : B - 0 ≡ B = omega arith in
    let all : take numbers ns ≡ upward 0 numbers = take_all numbers ns (omega (arith, (all_known k).long)) ∙ k in
    rw (x, z, y)
    (record { known = all_known k; most = omega arith; rounds = omega arith; long = refl; done = []; written = refl; lines = refl; rest = rw (e, all) })

-- of the first `count` queries those that wait are the first r
pub record Left (w : List ℕ) (i : ℕ) (ns : List ℕ) (count : ℕ) (ns' : List ℕ) (r : ℕ) : Type 0 where
  known : Known ns' r
  right : take r ns' ≡ select (waits w i) (take count ns)

pub left_in : {w : List ℕ} {i count r : ℕ} {ns part : List ℕ} → Known ns count → length part ≡ length (take count ns)
    → StillWaiting w i (take count ns) part r → Left w i ns count (part ++ drop count ns) r
left_in {count = count} {r} {ns} {part} k long s =
    let l : length part ≡ count = long ∙ length-take-le count ns (omega (arith, k.long, k.most)) in
    record {
      known = record {
        long = simp (length-append, length-drop) (omega (arith, k.long, k.most));
        most = omega (arith, s.most, k.most);
        below = λ j h. rw (get_or-append part (drop count ns) 0 j (omega (arith, s.most))) (s.known j h);
      };
      right = take-append-le r part (drop count ns) s.most ∙ s.right;
    }

module _ {w : List ℕ} {B : ℕ} {out₀ out : List ℕ} {ns ns' : List ℕ} {count count' placed i n : ℕ} (room : screen_line_length * B ≤ length out₀)
    (h : i < most_listed) (left : Left w i ns count ns' count') (is : n ≡ min count' (B - placed))
    (p : Sharing w B out₀ out ns count placed i) where
  -- each of those that are left waits
  waiting : (q : ℕ) → In q (take count' ns') → waits w i q ≡ true
  waiting q m = (select_in (waits w i) q (take count ns) (subst (In q) left.right m)).1

  pub still : (j : ℕ) → j < length (take n ns') → (get_or (take n ns') j 0 < numbers) × (i < length (keys w (get_or (take n ns') j 0)))
  still j h =
      let k : j < n = omega (arith, simp length-take at h) in
      let within : j < count' = omega arith in
      let member : In (get_or ns' j 0) (take count' ns') =
      subst (λ (q : ℕ). In q (take count' ns')) (get_or-take count' ns' j 0 within)
      (in_get_d 0 (take count' ns') j (simp length-take (omega (arith, left.known.long, left.known.most)))) in
      rw (get_or-take n ns' j 0 k) (left.known.below j within, ltb-true i (length (keys w (get_or ns' j 0))) (waiting (get_or ns' j 0) member))

  abbrev lines : List ScreenLine
  lines = map (line_after w i) (take n ns')

  lines_count : length lines ≡ n
  lines_count = length-map (take n ns') (line_after w i) ∙ length-take-le n ns' (omega (arith, left.known.long, left.known.most))

  -- of the lines of this round as many as may be
  this_round : take (B - placed) (round (map (queue_after w i) (take count' ns'))) ≡ lines
  this_round =
      ap (take (B - placed)) (round_lines w i (take count' ns') waiting)
      ∙ take_map (line_after w i) (B - placed) (take count' ns')
      ∙ ap (map (line_after w i)) (take_lesser (B - placed) count' ns' ∙ ap (λ (m : ℕ). take m ns') (sym is))

  next : screen (B - placed) (map (queue_after w i) (take count ns)) ≡ lines ++ screen (B - (placed + n)) (map (queue_after w (i + 1)) (take count' ns'))
  next =
      let size : length (round (map (queue_after w i) (take count' ns'))) ≡ count' =
      ap length (round_lines w i (take count' ns') waiting)
      ∙ length-map (take count' ns') (line_after w i)
      ∙ length-take-le count' ns' (omega (arith, left.known.long, left.known.most)) in
      let less : B - placed - length (round (map (queue_after w i) (take count' ns'))) ≡ B - (placed + n) = omega arith in
      sym (screen_skip (waits w i) (queue_after w i) (no_entry_lem w i) (B - placed) (take count ns))
      ∙ ap (λ (ns : List ℕ). screen (B - placed) (map (queue_after w i) ns)) (sym left.right)
      ∙ screen_round (B - placed) (map (queue_after w i) (take count' ns'))
      ∙ ap₂ {C = List ScreenLine} (λ x y. x ++ y) this_round (ap₂ screen less (served_next w i (take count' ns')))

  -- the part that is left of the output
  abbrev end : ℕ
  end = screen_line_length * placed

  abbrev free : ℕ
  free = length out - end

  pub sharing_more : {part : List ℕ} → part ≡ lines_into lines (take free (drop end out))
      → Sharing w B out₀ (put_mid end free out part) ns' count' (placed + n) (i + 1)
  sharing_more {part} bytes =
      let before = p.written in
      let written : put_mid end free out part ≡ lines_into (p.done ++ lines) out₀ =
      lines_put p.done lines out₀ end free p.lines (omega arith) (omega (arith, lines_count, p.long, p.most))
      (omega (arith, p.long, p.most)) bytes in
      let all : placed + n ≡ length (p.done ++ lines) = simp length-append (omega (arith, lines_count)) in
      record {
        known = left.known;
        most = omega (arith, p.most);
        rounds = omega arith;
        long = ap length written ∙ lines_length (p.done ++ lines) out₀ (omega (arith, p.most));
        done = p.done ++ lines;
        written = all;
        lines = written;
        rest = append_assoc p.done lines _ ∙ ap (λ (l : List ScreenLine). p.done ++ l) (sym next) ∙ p.rest;
      }

-- lines or entries have ended: all rounds are over, or all lines are placed, or no query waits
pub sharing_all : {w : List ℕ} {B : ℕ} {out₀ out ns : List ℕ} {count placed i : ℕ} → (most_listed ≤ i) ⊎ ((B ≤ placed) ⊎ (count ≡ 0))
    → Sharing w B out₀ out ns count placed i → Shared w B out₀ placed out
sharing_all {w} {B} {out₀} {out} {ns} {count} {placed} {i} end p =
    let none : screen (B - placed) (map (queue_after w i) (take count ns)) ≡ [] =
    ⊎_elim (λ h. screen_none (B - placed) (map (queue_after w i) (take count ns)) (ended w (take count ns) h)) (⊎_elim no_lines no_query) end in
    let all : p.done ≡ screen B (all_queues w) = sym (append-nil p.done) ∙ ap (λ (l : List ScreenLine). p.done ++ l) (sym none) ∙ p.rest in
    record { count = p.written ∙ ap length all; lines = p.lines ∙ ap (λ (l : List ScreenLine). lines_into l out₀) all }
  where
    no_lines : B ≤ placed → screen (B - placed) (map (queue_after w i) (take count ns)) ≡ []
    no_lines h = let z : B - placed ≡ 0 = omega arith in rw z (screen_zero (map (queue_after w i) (take count ns)))

    no_query : count ≡ 0 → screen (B - placed) (map (queue_after w i) (take count ns)) ≡ []
    no_query z = rw z (screen_nobody (B - placed))
