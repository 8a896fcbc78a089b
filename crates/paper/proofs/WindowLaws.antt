-- Laws of the window over messages whose times never fall: no more than N fill a place, and as the clock moves on and messages are added the
-- first of them leave; what a frame makes depart, and what it leaves in force. Assumes nothing.
use Prim.Native.Nat.{ℕ, suc, ◌+◌, ◌-◌, ◌≤◌, ◌<◌}
use native.Mathlib.Nat.{add-zero}
use native.Mathlib.Omega.{arith}
use mathlib.Core.Path.{◌≡◌, refl, ap, ap₂, ◌∙◌}
use mathlib.Core.Bool.{Bool, true, false, cond, not, ◌&&◌, and-false}
use mathlib.Core.List.{List, [], ◌∷◌, ◌++◌, map}
use lib.ListN.{length, length-append}
use lib.Dec.{eqb, ltb}
use borrow.Author.Tests.{lt-ltb, le-ltb, ltb-true, ltb-false, not-true}
use Rattle.paper.proofs.Tests as Tests
use Rattle.paper.proofs.Tests.{by_bool}
use Rattle.paper.specs.Sort.{select}
use Rattle.paper.specs.Window.{Message, withdrawn, filling, filled, standing, in_force, noted, noting, departing, remaining}
use Rattle.paper.specs.Order.{Split}
use Rattle.paper.specs.Order.Split.{empty, goes, remains}
use Rattle.paper.specs.Sound.{From, Chronological}

-- ---- one message

abbrev pub active : Message → Bool
active m = not m.cancelled

-- whether it has a serial
abbrev pub named : ℕ → Message → Bool
named s m = eqb m.serial s

abbrev pub unnamed : ℕ → Message → Bool
unnamed s m = not (named s m)

-- one that fills a place, after a frame that cancels the serial
abbrev pub withdrawing : ℕ → Message → Message
withdrawing s m = cond (active m && named s m) (withdrawn m) m

module _ (N T : ℕ) where
  pub fills : (t j : ℕ) (m : Message) → filling N T t j m ≡ true → (j < N) × (t - m.time ≤ T)
  fills t j m e =
      let p = Tests.and_true (ltb j N) (not (ltb T (t - m.time))) e in
      (ltb-true j N p.0, ltb-false T (t - m.time) (not-true (ltb T (t - m.time)) p.1))

  pub filling_true : (t j : ℕ) (m : Message) → j < N → t - m.time ≤ T → filling N T t j m ≡ true
  filling_true t j m h k = ap₂ ◌&&◌ (lt-ltb j N h) (ap not (le-ltb T (t - m.time) k))

  -- where a message fills a place, a later one does, and each did before
  later_fills : (t t' j j' : ℕ) (m x : Message) → filling N T t' j' m ≡ true → t ≤ t' → j ≤ j' → m.time ≤ x.time → filling N T t j x ≡ true
  later_fills t t' j j' m x e ht hj hm = let p = fills t' j' m e in filling_true t j x (omega arith) (omega arith)

  -- ---- the messages that fill a place while `more` others follow

  unfoldable pub staying : ℕ → ℕ → List Message → List Message
  staying t more [] = []
  staying t more (m ∷ l) = cond (filling N T t (length l + more) m) (m ∷ staying t more l) (staying t more l)

  pub staying_none : (t : ℕ) (l : List Message) → staying t 0 l ≡ filled N T t l
  unfolding staying filled
  staying_none t [] = refl
  staying_none t (m ∷ l) = rw (add-zero (length l), staying_none t l)

  -- with messages added at the end
  pub filled_append : (t : ℕ) (l new : List Message) → filled N T t (l ++ new) ≡ staying t (length new) l ++ filled N T t new
  unfolding staying filled
  filled_append t [] new = refl
  filled_append t (m ∷ l) new = rw (length-append l new, filled_append t l new) (by_bool (filling N T t (length l + length new) m) (λ e. rw e) (λ e. rw e))

  -- ---- where one message fills a place, so do all after it

  module _ (t j more : ℕ) (first : Message) (e : filling N T t j first ≡ true) where
    pub all_stay : (l : List Message) → length l + more ≤ j + 1 → From first.time l → staying t more l ≡ l
    unfolding staying
    all_stay [] h f = refl
    all_stay (m ∷ l) h f = rw (later_fills t t (length l + more) j first m e (omega arith) (omega arith) f.0, all_stay l (omega arith) f.1)

  -- those that fill a place and then no longer do
  unfoldable pub vacating : ℕ → ℕ → ℕ → List Message → List Message
  vacating t t' more [] = []
  vacating t t' more (m ∷ l) =
      cond (filling N T t (length l) m && not (filling N T t' (length l + more) m)) (m ∷ vacating t t' more l) (vacating t t' more l)

  module _ (t j more : ℕ) (first : Message) (e : filling N T t j first ≡ true) where
    none_vacates : (t₀ : ℕ) (l : List Message) → length l + more ≤ j + 1 → From first.time l → vacating t₀ t more l ≡ []
    unfolding vacating
    none_vacates t₀ [] h f = refl
    none_vacates t₀ (m ∷ l) h f =
        rw (
          later_fills t t (length l + more) j first m e (omega arith) (omega arith) f.0,
          and-false (filling N T t₀ (length l) m),
          none_vacates t₀ l (omega arith) f.1,
        )

  -- the first of them leave
  pub vacating_staying : (t t' more c : ℕ) (l : List Message) → Chronological c l → t ≤ t' → filled N T t l ≡ vacating t t' more l ++ staying t' more l
  unfolding filled vacating staying
  vacating_staying t t' more c [] o h = refl
  vacating_staying t t' more c (m ∷ l) o h =
      go (filling N T t' (length l + more) m) refl (vacating_staying t t' more c l o.2 h)
    where
      gone : List Message
      gone = vacating t t' more l

      stay : List Message
      stay = staying t' more l

      leaves : (b : Bool) → filled N T t l ≡ gone ++ stay → cond b (m ∷ filled N T t l) (filled N T t l) ≡ cond (b && true) (m ∷ gone) gone ++ stay
      leaves true ih = ap (λ (r : List Message). m ∷ r) ih
      leaves false ih = ih

      go : (b : Bool) → filling N T t' (length l + more) m ≡ b → filled N T t l ≡ gone ++ stay
          → cond (filling N T t (length l) m) (m ∷ filled N T t l) (filled N T t l)
          ≡ cond (filling N T t (length l) m && not b) (m ∷ gone) gone ++ cond b (m ∷ stay) stay
      go true e ih =
          let none : gone ≡ [] = none_vacates t' (length l + more) more m e t l (omega arith) o.1 in
          rw (later_fills t t' (length l) (length l + more) m m e h (omega arith) (omega arith), none)
          (ap (λ (r : List Message). m ∷ r) (ih ∙ ap (λ (r : List Message). r ++ stay) none))
      go false e ih = leaves (filling N T t (length l) m) ih

  -- ---- in force

  -- those that aren't cancelled
  pub in_force_filled : (t : ℕ) (l : List Message) → in_force N T t l ≡ select active (filled N T t l)
  unfolding in_force filled select
  in_force_filled t [] = refl
  in_force_filled t (m ∷ l) =
      by_bool (filling N T t (length l) m)
      (λ e. rw (e, in_force_filled t l))
      (λ e. rw (e, in_force_filled t l))

  pub in_force_most : (t : ℕ) (l : List Message) → (length (in_force N T t l) ≤ length l) × (length (in_force N T t l) ≤ N)
  unfolding in_force
  in_force_most t [] = (omega arith, omega arith)
  in_force_most t (m ∷ l) =
      let ih = in_force_most t l in
      by_bool (filling N T t (length l) m)
      (λ e. let p = fills t (length l) m e in rw e (by_bool m.cancelled (λ c. rw c (omega arith, omega arith)) (λ c. rw c (omega arith, omega arith))))
      (λ e. rw e (omega arith, omega arith))

  -- what was in force departs or remains
  pub departing_remaining : (t t' more : ℕ) (off : ℕ → Message → Bool) (l : List Message)
      → Split (in_force N T t l) (departing N T t t' more off l) (remaining N T t t' more off l)
  unfolding in_force departing remaining
  departing_remaining t t' more off [] = empty
  departing_remaining t t' more off (m ∷ l) =
      go (standing N T t (length l) m) (standing N T t' (length l + more) (noted off (length l) m)) (departing_remaining t t' more off l)
    where
      go : (b d : Bool) {all gone stay : List Message} → Split all gone stay
          → Split (cond b (m ∷ all) all) (cond (b && not d) (m ∷ gone) gone) (cond (b && d) (m ∷ stay) stay)
      go true true s = remains s
      go true false s = goes s
      go false d s = s

  -- a frame that cancels nothing
  module _ (t t' more : ℕ) (off : ℕ → Message → Bool) (none : (j : ℕ) (m : Message) → off j m ≡ false) (h : t ≤ t') where
    -- what fills a place after it did before
    filled_before : (j : ℕ) (m : Message) → filling N T t' (j + more) m ≡ true → filling N T t j m ≡ true
    filled_before j m e = later_fills t t' j (j + more) m m e h (omega arith) (omega arith)

    pub remaining_staying : (l : List Message) → remaining N T t t' more off l ≡ select active (staying t' more l)
    unfolding remaining staying select
    remaining_staying [] = refl
    remaining_staying (m ∷ l) =
        rw (none (length l) m, remaining_staying l)
        (by_bool (filling N T t' (length l + more) m)
        (λ e. rw (e, filled_before (length l) m e) (by_bool m.cancelled (λ c. rw c) (λ c. rw c)))
        (λ e. rw (e, and-false (standing N T t (length l) m))))

    pub departing_vacating : (l : List Message) → departing N T t t' more off l ≡ select active (vacating t t' more l)
    unfolding departing vacating select
    departing_vacating [] = refl
    departing_vacating (m ∷ l) =
        rw (none (length l) m, departing_vacating l)
        (by_bool (filling N T t' (length l + more) m)
        (λ e. rw (e, filled_before (length l) m e) (by_bool m.cancelled (λ c. rw c) (λ c. rw c)))
        (λ e. rw e (by_bool (filling N T t (length l) m) (λ f. rw f (by_bool m.cancelled (λ c. rw c) (λ c. rw c))) (λ f. rw f))))

  -- ---- messages noted as cancelled

  module _ (off : ℕ → Message → Bool) where
    pub noting_length : (l : List Message) → length (noting off l) ≡ length l
    unfolding noting
    noting_length [] = refl
    noting_length (m ∷ l) = ap suc (noting_length l)

    -- whoever stands after a frame stood before it, and isn't cancelled by it
    pub in_force_noting : (t t' : ℕ) (l new : List Message) → t ≤ t'
        → in_force N T t' (noting off l ++ new) ≡ remaining N T t t' (length new) off l ++ in_force N T t' new
    unfolding in_force noting remaining
    in_force_noting t t' [] new h = refl
    in_force_noting t t' (m ∷ l) new h =
        rw (length-append (noting off l) new, noting_length l, in_force_noting t t' l new h)
        (by_bool (off (length l) m)
        (λ e. rw (e, and-false (filling N T t' (length l + length new) m), and-false (standing N T t (length l) m)))
        (λ e. rw e
        (by_bool (filling N T t' (length l + length new) m)
        (λ f. rw (f, later_fills t t' (length l) (length l + length new) m m f h (omega arith) (omega arith)) (by_bool m.cancelled (λ c. rw c) (λ c. rw c)))
        (λ f. rw (f, and-false (standing N T t (length l) m))))))

  -- a frame that cancels whoever is in force with a serial
  module _ (s : ℕ) where
    abbrev off : ℕ → ℕ → Message → Bool
    off t later m = standing N T t later m && named s m

    pub filled_noting : (t : ℕ) (l : List Message) → filled N T t (noting (off t) l) ≡ map (withdrawing s) (filled N T t l)
    unfolding filled noting
    filled_noting t [] = refl
    filled_noting t (m ∷ l) =
        rw (noting_length (off t) l, filled_noting t l)
        (by_bool (filling N T t (length l) m)
        (λ f. rw f (by_bool m.cancelled (λ c. rw (c, f)) (λ c. rw c (by_bool (named s m) (λ n. rw (n, f)) (λ n. rw (n, f))))))
        (λ f. rw (f, f)))

    pub remaining_unnamed : (t t' : ℕ) (l : List Message) → t ≤ t' → remaining N T t t' 0 (off t') l ≡ select (unnamed s) (in_force N T t' l)
    unfolding remaining in_force select
    remaining_unnamed t t' [] h = refl
    remaining_unnamed t t' (m ∷ l) h =
        rw (add-zero (length l), remaining_unnamed t t' l h)
        (by_bool (filling N T t' (length l) m)
        (λ f. rw (f, later_fills t t' (length l) (length l) m m f h (omega arith) (omega arith))
        (by_bool m.cancelled (λ c. rw c) (λ c. rw c (by_bool (named s m) (λ n. rw (n, f)) (λ n. rw (n, f))))))
        (λ f. rw (f, f, and-false (standing N T t (length l) m))))

    pub departing_named : (t t' c : ℕ) (l : List Message) → Chronological c l → t ≤ t'
        → departing N T t t' 0 (off t') l ≡ select active (vacating t t' 0 l) ++ select (named s) (in_force N T t' l)
    unfolding departing vacating in_force select
    departing_named t t' c [] o h = refl
    departing_named t t' c (m ∷ l) o h =
        rw (add-zero (length l), departing_named t t' c l o.2 h)
        (by_bool (filling N T t' (length l) m)
        (λ f. let none : vacating t t' 0 l ≡ [] = none_vacates t' (length l) 0 m f t l (omega arith) o.1 in
        rw (none, f, later_fills t t' (length l) (length l) m m f h (omega arith) (omega arith))
        (by_bool m.cancelled (λ x. rw x) (λ x. rw x (by_bool (named s m) (λ n. rw (n, f)) (λ n. rw (n, f))))))
        (λ f. rw (f, f) (by_bool (filling N T t (length l) m) (λ g. rw g (by_bool m.cancelled (λ x. rw x) (λ x. rw x))) (λ g. rw g))))
