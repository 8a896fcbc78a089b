-- What the frame reader's answer says of the frame. Assumes nothing.
use Prim.Native.Nat.{ℕ, zero, suc, ◌≤◌, ◌<◌, ◌^◌}
use native.Mathlib.Nat.{not-suc-le-zero, le_of_suc-le-suc, suc_inj, le_of_eq}
use native.Mathlib.Omega.{arith}
use mathlib.Core.Path.{◌≡◌, refl, sym, ap, ◌∙◌, subst}
use mathlib.Core.List.{List, [], ◌∷◌}
use lib.ListN.{length, get_or, take}
use lib.Dec.{lit≤}
use Rattle.std.specs.Prelude.{Ok}
use Rattle.paper.specs.Frame.{Pair, Frame, Shape, AllFit, Pairs, level, urgency_of, grade_of, most_in, shape}
use Rattle.paper.specs.Frame.{count_width, weight_width, term_width, most_pairs, most_terms, most_listed, numbers}
use lib.Seq.{get_or-take}
use Rattle.paper.specs.Frame.Urgency.{vital}
use Rattle.paper.specs.Frame.Form.{ungraded, graded, long}
use Rattle.paper.specs.Frame.Frame.{message, tick, register, unregister, cancel}
use Rattle.paper.specs.Frame.Shape.{accepted}
use Rattle.paper.specs.Write.{side_by_side, pairs_in}
use Rattle.paper.proofs.FrameLaws.{level_most, form_most, shape_valid}
use Rattle.frame.specs.declared.Kind.{Kind}
use Rattle.frame.specs.declared.Kind.TheVariants.{Message, Tick, Register, Unregister, Cancel}
use Rattle.frame.specs.declared.Parsed.{Parsed}
use Rattle.frame.specs.Read.{answer_of, ReadFrame}
use Rattle.frame.proofs.RoundTrip.{form_of, told, read_told, count_in, count_answer}

-- two lists with as many pairs as is said: each is within its field
within : (w m : ℕ) (ts us : List ℕ) → AllFit w (side_by_side m ts us) → m ≡ length (side_by_side m ts us) → (i : ℕ) → i < m
    → (get_or ts i 0 < 2 ^ term_width) × (get_or us i 0 < 2 ^ w)
unfolding side_by_side
within w zero ts us a e i l = absurd (not-suc-le-zero l)
within w (suc m) [] us a e i l = absurd (not-suc-le-zero (le_of_eq e))
within w (suc m) (t ∷ ts) [] a e i l = absurd (not-suc-le-zero (le_of_eq e))
within w (suc m) (t ∷ ts) (u ∷ us) a e zero l = (a.0, a.1)
within w (suc m) (t ∷ ts) (u ∷ us) a e (suc i) l = within w m ts us a.2 (suc_inj e) i (le_of_suc-le-suc l)

accepted_same : {f g : Frame} → accepted f ≡ accepted g → f ≡ g
accepted_same e = cc

-- What a caller of a function for one kind needs: the frame is this one, and its arrays are within their fields.
pub record Read (bytes terms amounts : List ℕ) (m w : ℕ) (make : List Pair → Frame) : Type 0 where
  pub is : shape bytes ≡ accepted (make (side_by_side m terms amounts))
  pub least : 1 ≤ m
  pub most : m ≤ most_pairs
  pub fit : (i : ℕ) → i < m → (get_or terms i 0 < 2 ^ term_width) × (get_or amounts i 0 < 2 ^ w)

-- as many of the arrays as the pairs take
pub side_take : (n m : ℕ) (ts us : List ℕ) → n ≤ m → side_by_side n (take m ts) (take m us) ≡ side_by_side n ts us
unfolding side_by_side
side_take zero m ts us h = refl
side_take (suc n) zero ts us h = absurd (not-suc-le-zero h)
side_take (suc n) (suc m) [] us h = refl
side_take (suc n) (suc m) (t ∷ ts) [] h = refl
side_take (suc n) (suc m) (t ∷ ts) (u ∷ us) h = ap (λ (l : List Pair). record { term = t; amount = u } ∷ l) (side_take n m ts us (le_of_suc-le-suc h))

pub read_eight : {bytes terms amounts ts us : List ℕ} {m w : ℕ} {make : List Pair → Frame} → ts ≡ take 8 terms → us ≡ take 8 amounts
    → Read bytes terms amounts m w make → m ≤ 8 → Read bytes ts us m w make
read_eight {bytes} {terms} {amounts} {ts} {us} {m} {w} {make} et eu r h = rw (et, eu) (record {
  is = r.is ∙ ap (λ (l : List Pair). accepted (make l)) (sym (side_take m 8 terms amounts h));
  least = r.least;
  most = r.most;
  fit = λ i l. let k : i < 8 = omega arith in rw (get_or-take 8 terms i 0 k, get_or-take 8 amounts i 0 k) (r.fit i l);
})

-- the urgency that an answer says is one of the three, and the message's in its form
abbrev pub Urged : Kind → Type 0
Urged (Message f t s u m) = (u ≤ level vital) × (grade_of (form_of f (urgency_of u)) ≡ urgency_of u)
Urged (Tick t) = Unit {0}
Urged (Register t n k m) = Unit {0}
Urged (Unregister t n) = Unit {0}
Urged (Cancel t s) = Unit {0}

urged : (f : Frame) → Urged (answer_of f)
urged (message t s ungraded ps) = (lit≤ tt, refl)
urged (message t s (graded u) ps) = (level_most u, refl)
urged (message t s (long u) ps) = (level_most u, refl)
urged (tick t) = tt
urged (register t n k ps) = tt
urged (unregister t n) = tt
urged (cancel t s) = tt

module _ (bytes : List ℕ) (r : Parsed) (post : ReadFrame (shape bytes) r) where
  -- bytes that are answered with k are the frame that k tells
  pub read_as : (k : Kind) → r.what ≡ k → shape bytes ≡ accepted (told k r.terms r.amounts)
  read_as k e = sym (read_told bytes (Ok r) post) ∙ ap (λ (x : Kind). accepted (told x r.terms r.amounts)) e

  -- and have as many pairs as k says
  read_count : (k : Kind) → r.what ≡ k → count_in k ≡ length (pairs_in (told k r.terms r.amounts))
  read_count k e =
      let same : post.frame ≡ told k r.terms r.amounts = accepted_same (sym post.is ∙ read_as k e) in
      ap count_in (sym e ∙ post.what) ∙ count_answer post.frame ∙ ap (λ (f : Frame). length (pairs_in f)) same

  read_pairs : (m w most : ℕ) (make : List Pair → Frame) → shape bytes ≡ accepted (make (side_by_side m r.terms r.amounts))
      → m ≡ length (side_by_side m r.terms r.amounts) → Pairs w most (side_by_side m r.terms r.amounts) → most ≤ most_pairs
      → Read bytes r.terms r.amounts m w make
  read_pairs m w most make is n p h =
      let l = p.least_one in
      let u = p.at_most in
      record { is = is; least = omega arith; most = omega arith; fit = within w m r.terms r.amounts p.fit n }

  pub read_message : (f t s u m : ℕ) → r.what ≡ Message f t s u m
      → Read bytes r.terms r.amounts m count_width (message t s (form_of f (urgency_of u))) × Urged (Message f t s u m)
  read_message f t s u m e =
      let g = form_of f (urgency_of u) in
      let is = read_as (Message f t s u m) e in (
        read_pairs m count_width (most_in g) (message t s g) is (read_count (Message f t s u m) e) (shape_valid bytes _ is).pairs (form_most g),
        subst Urged (sym post.what ∙ e) (urged post.frame),
      )

  pub read_register : (t n k m : ℕ) → r.what ≡ Register t n k m
      → Read bytes r.terms r.amounts m weight_width (register t n k) × (n < numbers) × (1 ≤ k) × (k ≤ most_listed) × (m ≤ most_terms)
  read_register t n k m e =
      let is = read_as (Register t n k m) e in
      let c = read_count (Register t n k m) e in
      let v = shape_valid bytes _ is in
      let few = v.terms.at_most in
      (read_pairs m weight_width most_terms (register t n k) is c v.terms (omega arith), v.number, v.k_least, v.k_most, omega arith)

  pub read_unregister : (t n : ℕ) → r.what ≡ Unregister t n → n < numbers
  read_unregister t n e = (shape_valid bytes _ (read_as (Unregister t n) e)).1
