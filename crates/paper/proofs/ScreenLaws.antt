-- Laws of a screen: it goes out round by round, queries without entries don't matter to it, and what each query gets of it. Assumes nothing.
use Prim.Native.Nat.{ℕ, zero, suc, ◌+◌, ◌*◌, ◌-◌, ◌/◌, ◌≤◌, ◌<◌, min}
use native.Mathlib.Nat.{sub-zero, zero-sub, suc-sub-suc, suc-mul, mul-le-mul_right, div-mul-le_self, not-suc-le-zero, le_of_suc-le-suc}
use native.Mathlib.Omega.{arith}
use mathlib.Core.Path.{◌≡◌, refl, sym, ap, ap₂, ◌∙◌, subst}
use mathlib.Core.Bool.{Bool, false}
use mathlib.Core.Logic.{inl, inr, ⊎_elim}
use mathlib.Core.List.{List, [], ◌∷◌, ◌++◌, map, map-map, map-id, map-append, append_assoc, append-nil}
use lib.ListN.{length, get_or, take, drop, length-append, length-take, length-drop, length-map, take-append-drop}
use lib.Dec.{eqb}
use lib.Seq.{take_all, take-append_seam, take-nil}
use borrow.Author.Tests.{eq-eqb, ne_eqb}
use Rattle.paper.specs.Rank.{Line}
use Rattle.paper.specs.Sort.{select}
use Rattle.paper.specs.Order.{In, Ordered}
use Rattle.paper.specs.Frame.{numbers}
use Rattle.paper.specs.Log.{Log, query_at, is_in_use}
use Rattle.paper.specs.Screen.{Queue, ScreenLine, turn, round, served, rounds, longest, screen, upward}
use Rattle.paper.specs.Screen.{numbers_in_use, queue_of, queues, judge_screen, screen_in, own, entries_in, Fair}
use Rattle.paper.proofs.Tests.{by_bool}
use Rattle.paper.proofs.SortLaws.{in_append, in_map, from_map, in_take, select_append, select_in}

-- ---- round by round

longest_served : (qs : List Queue) → longest (map served qs) ≡ longest qs - 1
unfolding longest
longest_served [] = refl
longest_served (q ∷ qs) = let ih = longest_served qs in let d = length-drop 1 q.unplaced in omega arith

-- nobody has an entry
no_element : {A : Type 0} (l : List A) → length l ≡ 0 → l ≡ []
no_element l e = sym (take_all 0 l (omega arith))

round_none : (qs : List Queue) → longest qs ≡ 0 → round qs ≡ []
unfolding longest round
round_none [] e = refl
round_none (q ∷ qs) e = rw (no_element q.unplaced (omega arith)) (round_none qs (omega arith))

rounds_step : (qs : List Queue) → rounds (longest qs) qs ≡ round qs ++ rounds (longest (map served qs)) (map served qs)
unfolding rounds
rounds_step qs = rw (longest_served qs) (go (longest qs) refl)
  where
    go : (n : ℕ) → longest qs ≡ n → rounds n qs ≡ round qs ++ rounds (n - 1) (map served qs)
    go zero e = rw (round_none qs e) refl
    go (suc n) e = let m : suc n - 1 ≡ n = omega arith in rw m

take_two : {A : Type 0} (n : ℕ) (xs ys : List A) → take n (xs ++ ys) ≡ take n xs ++ take (n - length xs) ys
take_two n [] ys = rw (take-nil n, sub-zero n)
take_two zero (x ∷ xs) ys = rw (zero-sub (suc (length xs)))
take_two (suc n) (x ∷ xs) ys = rw (suc-sub-suc n (length xs), take_two n xs ys)

-- a round, and a screen of the lines that are left
pub screen_round : (B : ℕ) (qs : List Queue) → screen B qs ≡ take B (round qs) ++ screen (B - length (round qs)) (map served qs)
unfolding screen
screen_round B qs = ap (take B) (rounds_step qs) ∙ take_two B (round qs) _

-- entries have ended
pub screen_none : (B : ℕ) (qs : List Queue) → longest qs ≡ 0 → screen B qs ≡ []
unfolding screen rounds
screen_none B qs e = rw e (take-nil B)

-- lines have ended
pub screen_most : (B : ℕ) (qs : List Queue) → length (screen B qs) ≤ B
unfolding screen
screen_most B qs = omega (arith, length-take B (rounds (longest qs) qs))

-- ---- without those that have no entry

module _ (p : ℕ → Bool) where
  -- whoever fails the test has none
  abbrev Skips : (ℕ → Queue) → Type 0
  Skips f = (n : ℕ) → p n ≡ false → (f n).unplaced ≡ []

  longest_skip : (f : ℕ → Queue) → Skips f → (ns : List ℕ) → longest (map f (select p ns)) ≡ longest (map f ns)
  unfolding longest select
  longest_skip f h [] = refl
  longest_skip f h (n ∷ ns) = let ih = longest_skip f h ns in by_bool (p n) (λ e. rw (e, ih)) (λ e. rw (e, h n e) (omega arith))

  round_skip : (f : ℕ → Queue) → Skips f → (ns : List ℕ) → round (map f (select p ns)) ≡ round (map f ns)
  unfolding round select
  round_skip f h [] = refl
  round_skip f h (n ∷ ns) = let ih = round_skip f h ns in by_bool (p n) (λ e. rw (e, ih)) (λ e. rw (e, h n e) ih)

  rounds_skip : (k : ℕ) (f : ℕ → Queue) → Skips f → (ns : List ℕ) → rounds k (map f (select p ns)) ≡ rounds k (map f ns)
  unfolding rounds
  rounds_skip zero f h ns = refl
  rounds_skip (suc k) f h ns =
      ap₂ {C = List ScreenLine} (λ a b. a ++ b) (round_skip f h ns)
      (ap (rounds k) (map-map served f (select p ns))
      ∙ rounds_skip k (λ n. served (f n)) (λ n e. ap (drop 1) (h n e)) ns
      ∙ sym (ap (rounds k) (map-map served f ns)))

  pub screen_skip : (f : ℕ → Queue) → Skips f → (B : ℕ) (ns : List ℕ) → screen B (map f (select p ns)) ≡ screen B (map f ns)
  unfolding screen
  screen_skip f h B ns = rw (longest_skip f h ns, rounds_skip (longest (map f ns)) f h ns)

-- ---- a query's own lines

-- no two are the same number
abbrev Apart : List ℕ → Type 0
Apart ns = Ordered (λ m n. m ≡ n → ⊥) ns

abbrev numbers_of : List Queue → List ℕ
numbers_of qs = map (λ q. q.number) qs

numbers_served : (qs : List Queue) → numbers_of (map served qs) ≡ numbers_of qs
numbers_served qs = map-map (λ (q : Queue). q.number) served qs

module _ (n : ℕ) where
  own_append : (xs ys : List ScreenLine) → own n (xs ++ ys) ≡ own n xs ++ own n ys
  own_append xs ys =
      let mine : ScreenLine → Bool = λ p. eqb p.number n in
      rw (select_append mine xs ys, map-append (λ (p : ScreenLine). p.entry) (select mine xs) (select mine ys))

  own_same : {m : ℕ} (l : List Line) → m ≡ n → own n (map (λ x. record { number = m; entry = x }) l) ≡ l
  unfolding select
  own_same [] e = refl
  own_same {m} (x ∷ l) e = rw (eq-eqb m n e, own_same l e)

  own_other : {m : ℕ} (l : List Line) → (m ≡ n → ⊥) → own n (map (λ x. record { number = m; entry = x }) l) ≡ []
  unfolding select
  own_other [] ne = refl
  own_other {m} (x ∷ l) ne = rw (ne_eqb m n ne) (own_other l ne)

  own_absent : (qs : List Queue) → (In n (numbers_of qs) → ⊥) → own n (round qs) ≡ []
  unfolding round select
  own_absent [] h = refl
  own_absent (q ∷ qs) h =
      own_append (turn q) (round qs)
      ∙ ap₂ {C = List Line} (λ a b. a ++ b) (own_other (take 1 q.unplaced) (λ e. h (inl (sym e)))) (own_absent qs (λ i. h (inr i)))

own_round : (q : Queue) (qs : List Queue) → In q qs → Apart (numbers_of qs) → own q.number (round qs) ≡ take 1 q.unplaced
unfolding round
own_round q [] i a = absurd i
own_round q (x ∷ qs) (inl e) a =
    own_append q.number (turn x) (round qs)
    ∙ ap₂ {C = List Line} (λ b c. b ++ c) (own_same q.number (take 1 x.unplaced) (ap (λ (y : Queue). y.number) (sym e)))
    (own_absent q.number qs (λ i. a.0 q.number i (ap (λ (y : Queue). y.number) (sym e))))
    ∙ append-nil (take 1 x.unplaced)
    ∙ ap (λ (y : Queue). take 1 y.unplaced) (sym e)
own_round q (x ∷ qs) (inr i) a =
    own_append q.number (turn x) (round qs)
    ∙ ap₂ {C = List Line} (λ b c. b ++ c)
    (own_other q.number (take 1 x.unplaced) (λ e. a.0 q.number (in_map (λ (y : Queue). y.number) q qs i) e))
    (own_round q qs i a.1)

-- after n rounds the first n of its entries are placed
own_rounds : (n : ℕ) (q : Queue) (qs : List Queue) → In q qs → Apart (numbers_of qs) → own q.number (rounds n qs) ≡ take n q.unplaced
unfolding rounds select
own_rounds zero q qs i a = refl
own_rounds (suc n) q qs i a =
    own_append q.number (round qs) (rounds n (map served qs))
    ∙ ap₂ {C = List Line} (λ b c. b ++ c) (own_round q qs i a)
    (own_rounds n (served q) (map served qs) (in_map served q qs i) (subst Apart (sym (numbers_served qs)) a))
    ∙ one_more q.unplaced
  where
    one_more : (l : List Line) → take 1 l ++ take n (drop 1 l) ≡ take (suc n) l
    one_more [] = take-nil n
    one_more (x ∷ l) = refl

-- a part of the lines has the first of its entries
own_take : (n B : ℕ) (ps : List ScreenLine) → own n (take B ps) ≡ take (length (own n (take B ps))) (own n ps)
own_take n B ps =
    let e : own n ps ≡ own n (take B ps) ++ own n (drop B ps) = ap (own n) (sym (take-append-drop B ps)) ∙ own_append n (take B ps) (drop B ps) in
    rw e (sym (take-append_seam (own n (take B ps)) (own n (drop B ps))))

-- ---- how many lines

longest_least : (q : Queue) (qs : List Queue) → In q qs → length q.unplaced ≤ longest qs
unfolding longest
longest_least q [] i = absurd i
longest_least q (x ∷ qs) (inl e) = let l = ap (λ (y : Queue). length y.unplaced) e in omega arith
longest_least q (x ∷ qs) (inr i) = let ih = longest_least q qs i in omega arith

round_entries : (qs : List Queue) → length (round qs) + entries_in (map served qs) ≡ entries_in qs
unfolding round entries_in
round_entries [] = refl
round_entries (q ∷ qs) =
    let ih = round_entries qs in
    simp (length-append, length-map, length-take, length-drop) (omega arith)

entries_none : (qs : List Queue) → longest qs ≤ 0 → entries_in qs ≡ 0
unfolding longest entries_in
entries_none [] h = refl
entries_none (q ∷ qs) h = let ih = entries_none qs (omega arith) in omega arith

rounds_length : (n : ℕ) (qs : List Queue) → longest qs ≤ n → length (rounds n qs) ≡ entries_in qs
unfolding rounds
rounds_length zero qs h = sym (entries_none qs h)
rounds_length (suc n) qs h =
    let ih = rounds_length n (map served qs) (omega (arith, longest_served qs)) in
    length-append (round qs) (rounds n (map served qs)) ∙ omega (arith, round_entries qs)

round_most : (qs : List Queue) → length (round qs) ≤ length qs
unfolding round
round_most [] = omega arith
round_most (q ∷ qs) = let ih = round_most qs in simp (length-append, length-map, length-take) (omega arith)

rounds_most : (n : ℕ) (qs : List Queue) → length (rounds n qs) ≤ n * length qs
unfolding rounds
rounds_most zero qs = omega arith
rounds_most (suc n) qs =
    let ih = rounds_most n (map served qs) in
    simp (length-append, suc-mul) (omega (arith, round_most qs, rw (length-map qs served) at ih))

-- the first of some rounds
rounds_first : (m n : ℕ) (qs : List Queue) → m ≤ n → (more : List ScreenLine) × (rounds n qs ≡ rounds m qs ++ more)
unfolding rounds
rounds_first zero n qs h = (rounds n qs, refl)
rounds_first (suc m) zero qs h = absurd (not-suc-le-zero h)
rounds_first (suc m) (suc n) qs h =
    let ih = rounds_first m n (map served qs) (le_of_suc-le-suc h) in
    (ih.0, ap (λ (l : List ScreenLine). round qs ++ l) ih.1 ∙ sym (append_assoc (round qs) (rounds m (map served qs)) ih.0))

-- ---- whose lines

in_round : (p : ScreenLine) (qs : List Queue) → In p (round qs) → In p.number (numbers_of qs)
unfolding round
in_round p [] i = absurd i
in_round p (q ∷ qs) i =
    ⊎_elim (λ j. inl (ap (λ (x : ScreenLine). x.number) (from_map (λ (x : Line). record { number = q.number; entry = x }) p (take 1 q.unplaced) j).2))
    (λ j. inr (in_round p qs j)) (in_append p (turn q) (round qs) i)

in_rounds : (n : ℕ) (p : ScreenLine) (qs : List Queue) → In p (rounds n qs) → In p.number (numbers_of qs)
unfolding rounds
in_rounds zero p qs i = absurd i
in_rounds (suc n) p qs i =
    ⊎_elim (in_round p qs) (λ j. subst (In p.number) (numbers_served qs) (in_rounds n p (map served qs) j))
    (in_append p (round qs) (rounds n (map served qs)) i)

-- ---- fair for each

module _ (B : ℕ) (qs : List Queue) (apart : Apart (numbers_of qs)) where
  module _ (q : Queue) (i : In q qs) where
    first : own q.number (screen B qs) ≡ take (length (own q.number (screen B qs))) q.unplaced
    unfolding screen
    first =
        own_take q.number B (rounds (longest qs) qs)
        ∙ ap (take (length (own q.number (screen B qs)))) (own_rounds (longest qs) q qs i apart ∙ take_all (longest qs) q.unplaced (longest_least q qs i))

    -- the rounds that B lines are enough for whoever has entries
    enough : min (length q.unplaced) (B / length qs) ≤ length (own q.number (screen B qs))
    unfolding screen
    enough =
        let m : ℕ = min (B / length qs) (longest qs) in
        let part = rounds_first m (longest qs) qs (omega arith) in
        let few : length (rounds m qs) ≤ B =
        omega (arith, rounds_most m qs, mul-le-mul_right {m = m} {n = B / length qs} (length qs) (omega arith), div-mul-le_self B (length qs)) in
        let e : own q.number (screen B qs) ≡ own q.number (rounds m qs) ++ own q.number (take (B - length (rounds m qs)) part.0) =
        ap (λ (l : List ScreenLine). own q.number (take B l)) part.1
        ∙ ap (own q.number) (take_two B (rounds m qs) part.0
        ∙ ap (λ (l : List ScreenLine). l ++ take (B - length (rounds m qs)) part.0) (take_all B (rounds m qs) few))
        ∙ own_append q.number (rounds m qs) (take (B - length (rounds m qs)) part.0) in
        omega (arith, simp length-append at (ap length e), ap length (own_rounds m q qs i apart), length-take m q.unplaced, longest_least q qs i)

  shared : Fair B qs (screen B qs)
  unfolding screen longest rounds
  shared = record {
    at_least = enough;
    at_most = λ q i. omega (arith, ap length (first q i), length-take (length (own q.number (screen B qs))) q.unplaced);
    in_order = first;
    sum = length-take B (rounds (longest qs) qs) ∙ ap (min B) (rounds_length (longest qs) qs (omega arith));
    known = λ p i. in_rounds (longest qs) p qs (in_take B (rounds (longest qs) qs) p i);
    none = λ e. rw e (take-nil B);
  }

-- ---- numbers one after the other

pub upward_length : (n m : ℕ) → length (upward n m) ≡ m
unfolding upward
upward_length n zero = refl
upward_length n (suc m) = ap suc (upward_length (suc n) m)

pub upward_at : (n m j : ℕ) → j < m → get_or (upward n m) j 0 ≡ n + j
unfolding upward
upward_at n zero j h = absurd (not-suc-le-zero h)
upward_at n (suc m) zero h = omega arith
upward_at n (suc m) (suc j) h = upward_at (suc n) m j (omega arith) ∙ omega arith

pub upward_between : (k n m : ℕ) → In k (upward n m) → (n ≤ k) × (k < n + m)
unfolding upward
upward_between k n zero i = absurd i
upward_between k n (suc m) (inl e) = (omega arith, omega arith)
upward_between k n (suc m) (inr i) = let ih = upward_between k (suc n) m i in (omega arith, omega arith)

upward_apart : (n m : ℕ) → Apart (upward n m)
unfolding upward
upward_apart n zero = tt
upward_apart n (suc m) = (λ k i e. let l = upward_between k (suc n) m i in omega arith, upward_apart (suc n) m)

select_apart : (p : ℕ → Bool) (ns : List ℕ) → Apart ns → Apart (select p ns)
unfolding select
select_apart p [] a = tt
select_apart p (n ∷ ns) a =
    let ih = select_apart p ns a.1 in
    by_bool (p n) (λ e. rw e (λ k i. a.0 k (select_in p k ns i).0, ih)) (λ e. rw e ih)

-- ---- of a log

-- whatever the log and B, where it isn't refused
pub fair : (B : ℕ) (log : Log) (state output : ℕ) → judge_screen B state output ≡ 0 → Fair B (queues log) (screen_in B log state output)
unfolding screen_in
fair B log state output ok =
    rw ok
    (shared B (queues log)
    (subst Apart (sym (map-map (λ (q : Queue). q.number) (queue_of log) (numbers_in_use log) ∙ map-id (numbers_in_use log)))
    (select_apart (λ n. is_in_use (query_at log n)) (upward 0 numbers) (upward_apart 0 numbers))))
