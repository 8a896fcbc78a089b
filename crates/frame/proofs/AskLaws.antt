-- Laws of the frame of a search: what its bytes ask for, by what they are as a frame. Assumes nothing.
use Prim.Native.Nat.{ℕ}
use native.Mathlib.Omega.{arith}
use mathlib.Core.Path.{◌≡◌, refl, sym, ap, ◌∙◌}
use mathlib.Core.Bool.{Bool, true, false, cond}
use mathlib.Core.Logic.{⊎_elim}
use mathlib.Core.List.{List, map}
use mathlib.Core.Option.{some}
use lib.ListN.{length}
use lib.Dec.{eqb, ltb}
use borrow.Author.Tests.{eqb-true}
use Rattle.std.specs.Prelude.{Ok}
use Rattle.wire.specs.Field.{field, total}
use Rattle.paper.specs.Frame.{Pair, Frame, Shape, row_of, widths, values_at, pairs_by, grades_known, known, frame_of, shape_of_kind, shape, pairs_at}
use Rattle.paper.specs.Frame.{kind_width, most_pairs}
use Rattle.paper.specs.Frame.Frame.{message, tick, register, unregister, cancel}
use Rattle.paper.specs.Frame.Shape.{refused, accepted}
use Rattle.paper.specs.Write.{side_by_side, pairs_in}
use Rattle.paper.specs.Rank.{Query}
use Rattle.paper.specs.Search.{asked, refusal_of, query_in}
use Rattle.paper.specs.Sound.{Terms}
use Rattle.paper.proofs.FrameLaws.{by_test, or_refused, shape_number, shape_valid}
use Rattle.frame.specs.declared.Kind.{Kind}
use Rattle.frame.specs.declared.Kind.TheVariants.{Message, Tick, Register, Unregister, Cancel}
use Rattle.frame.specs.declared.Parsed.{Parsed}
use Rattle.frame.specs.declared.Asked.{Asked}
use Rattle.frame.specs.Read.{ReadFrame, check_number, term_array, amount_array}
use Rattle.frame.specs.Ask.{AskedQuery, asked_number}
use Rattle.frame.proofs.ReadLaws.{check_by}
use Rattle.frame.proofs.RoundTrip.{length_padded, beside_padded, told, read_told, count_in, count_answer}

-- what a frame asks for: only a registration asks, and a refusal is told by another number
abbrev asked_of : (ℕ → ℕ) → Shape → Shape
asked_of number (refused r) = refused (number r)
asked_of number (accepted (message t s g ps)) = refused 2
asked_of number (accepted (tick t)) = refused 2
asked_of number (accepted (register t n k ps)) = accepted (register t n k ps)
asked_of number (accepted (unregister t n)) = refused 2
asked_of number (accepted (cancel t s)) = refused 2

module _ (s : List ℕ) where
  -- a claim about bytes of a kind, from the claims about refusals and about that kind's frames
  by_frame : (P : Shape → Type 0) (k : ℕ) → ((r : ℕ) → P (refused r)) → ((vs : List ℕ) (ps : List Pair) → P (frame_of k vs ps)) → P (shape_of_kind k s)
  unfolding shape_of_kind
  by_frame P k refusing made =
      let row = row_of k in
      let vs = values_at s row in
      let m = pairs_by row vs in
      let graded = grades_known row.head vs in
      let number = check_number s (total (widths row)) row.amount m graded in
      or_refused P (known row) (refusing 2)
      (λ _. rw (check_by s (widths row) row.amount m graded (frame_of k vs))
      (by_test P (eqb number 0) (λ _. made vs (pairs_at s (total (widths row)) row.amount m)) (λ _. refusing number)))

  -- kind 3 asks, or is refused as it is
  asks : shape_of_kind 3 s ≡ asked_of (λ r. r) (shape_of_kind 3 s)
  unfolding frame_of
  asks = by_frame (λ x. x ≡ asked_of (λ r. r) x) 3 (λ r. refl) (λ vs ps. refl)

  -- no other kind asks
  other_kind : (k : ℕ) → eqb k 3 ≡ false → refused 2 ≡ asked_of (λ r. 2) (shape_of_kind k s)
  unfolding frame_of
  other_kind k other =
      let P : Shape → Type 0 = λ x. refused 2 ≡ asked_of (λ r. 2) x in
      by_frame P k (λ r. refl)
      (λ vs ps. by_test P (eqb k 1) (λ _. refl) (λ _. by_test P (eqb k 2) (λ _. refl) (λ _. rw other
      (by_test P (eqb k 4) (λ _. refl) (λ _. by_test P (eqb k 5) (λ _. refl) (λ _. by_test P (eqb k 6) (λ _. refl)
      (λ _. by_test P (eqb k 7) (λ _. refl) (λ _. refl))))))))

  asked_shape : asked s ≡ asked_of (asked_number s) (shape s)
  unfolding asked shape asked_number
  asked_shape = go (ltb (length s) 5) (field s 0 kind_width) (eqb (field s 0 kind_width) 3) refl
    where
      go : (short : Bool) (k : ℕ) (three : Bool) → eqb k 3 ≡ three
          → cond short (refused 1) (cond three (shape_of_kind 3 s) (refused 2))
          ≡ asked_of (λ r. cond short r (cond three r 2)) (cond short (refused 1) (shape_of_kind k s))
      go true k three e = refl
      go false k true e = rw (eqb-true k 3 e) asks
      go false k false e = other_kind k e

-- what is asked for, by the answer to the bytes as a frame
module _ (s : List ℕ) where
  pub asked_refused : (number : ℕ) → shape s ≡ refused number → asked s ≡ refused (asked_number s number)
  asked_refused number e = asked_shape s ∙ ap (asked_of (asked_number s)) e

  module _ (p : Parsed) (post : ReadFrame (shape s) p) where
    asked_told : (what : Kind) → p.what ≡ what → asked s ≡ asked_of (asked_number s) (accepted (told what p.terms p.amounts))
    asked_told what e = rw (asked_shape s, ← read_told s (Ok p) post, e)

    pub asked_other : ((t n k m : ℕ) → p.what ≡ Register t n k m → ⊥) → asked s ≡ refused 2
    asked_other not_register = asked_told p.what refl ∙ go p.what not_register
      where
        go : (what : Kind) → ((t n k m : ℕ) → what ≡ Register t n k m → ⊥)
            → asked_of (asked_number s) (accepted (told what p.terms p.amounts)) ≡ refused 2
        go (Message f t s u m) a = refl
        go (Tick t) a = refl
        go (Register t n k m) a = absurd (a t n k m refl)
        go (Unregister t n) a = refl
        go (Cancel t n) a = refl

    pub asked_register : (t n k m : ℕ) → p.what ≡ Register t n k m
        → AskedQuery (asked s) (record { k = k; n = m; terms = p.terms; weights = p.amounts })
    asked_register t n k m e =
        let ps : List Pair = side_by_side m p.terms p.amounts in
        let told_as : accepted (told p.what p.terms p.amounts) ≡ accepted post.frame = read_told s (Ok p) post ∙ post.is in
        let same : accepted (register t n k ps) ≡ accepted post.frame = rw e at told_as in
        let pairs : pairs_in post.frame ≡ ps = in_frame _ _ (sym same) in
        record {
          query = record { k = k; terms = ps };
          is = rw (asked_told (Register t n k m) e);
          k = refl;
          n = ap count_in (sym e ∙ post.what) ∙ count_answer post.frame ∙ ap length pairs;
          terms = post.terms ∙ ap term_array pairs;
          weights = post.amounts ∙ ap amount_array pairs;
        }
      where
        in_frame : (f g : Frame) → accepted f ≡ accepted g → pairs_in f ≡ pairs_in g
        in_frame f g h = let k : f ≡ g = cc in ap pairs_in k

-- ---- what is asked for where nothing refuses it

-- a refusal stays one
refused_still : (s : List ℕ) (r : ℕ) → asked_number s r ≡ 0 → r ≡ 0
unfolding asked_number
refused_still s r = by_two (ltb (length s) 5) (eqb (field s 0 kind_width) 3)
  where
    by_two : (short three : Bool) → cond short r (cond three r 2) ≡ 0 → r ≡ 0
    by_two true three z = z
    by_two false true z = z
    by_two false false z = absurd (omega arith)

-- a search that isn't refused has a query
asked_valid : (s : List ℕ) → refusal_of (asked s) ≡ 0 → (q : Query) × (query_in (asked s) ≡ some q) × Terms q
asked_valid s z = rw (asked_shape s) (go (shape s) refl (rw (asked_shape s) at z))
  where
    go : (x : Shape) → shape s ≡ x → refusal_of (asked_of (asked_number s) x) ≡ 0 → (q : Query) × (query_in (asked_of (asked_number s) x) ≡ some q) × Terms q
    go (refused r) e z =
        let none = refused_still s r z in
        absurd (⊎_elim (λ l. omega arith) (λ f. omega arith) (shape_number s r e))
    go (accepted (message t n g ps)) e z = absurd (omega arith)
    go (accepted (tick t)) e z = absurd (omega arith)
    go (accepted (register t n k ps)) e z =
        let v = shape_valid s (register t n k ps) e in
        (record { k = k; terms = ps }, refl, record { k_least = v.k_least; k_most = v.k_most; terms = v.terms })
    go (accepted (unregister t n)) e z = absurd (omega arith)
    go (accepted (cancel t n)) e z = absurd (omega arith)

-- and one that has a query isn't refused
query_valid : (s : List ℕ) (q : Query) → query_in (asked s) ≡ some q → (refusal_of (asked s) ≡ 0) × Terms q
query_valid s q is =
    let free : refusal_of (asked s) ≡ 0 = free_of (asked s) is in
    let v = asked_valid s free in
    let same : v.0 ≡ q = some_same (sym v.1 ∙ is) in
    (free, rw same at v.2)
  where
    free_of : (x : Shape) → query_in x ≡ some q → refusal_of x ≡ 0
    free_of (refused r) h = absurd cc
    free_of (accepted f) h = refl

    some_same : {p : Query} → some p ≡ some q → p ≡ q
    some_same h = cc

-- the answer holds a query within its ranges, its pairs in two arrays
pub record Question (s : List ℕ) (r : Asked) : Type 0 where
  pub free : refusal_of (asked s) ≡ 0
  pub query : Query
  pub is : query_in (asked s) ≡ some query
  pub valid : Terms query
  pub k : r.k ≡ query.k
  pub n : r.n ≡ length query.terms
  pub pairs : side_by_side r.n r.terms r.weights ≡ query.terms
  pub terms : length r.terms ≡ most_pairs
  pub weights : length r.weights ≡ most_pairs

pub question : (s : List ℕ) (r : Asked) → AskedQuery (asked s) r → Question s r
question s r post =
    let q = post.query in
    let v = query_valid s q post.is in
    record {
      free = v.0;
      query = q;
      is = post.is;
      valid = v.1;
      k = post.k;
      n = post.n;
      pairs = rw (post.n, post.terms, post.weights) (beside_padded most_pairs q.terms (omega (arith, v.1.terms.at_most)));
      terms = ap length post.terms ∙ length_padded most_pairs (map (λ p. p.term) q.terms);
      weights = ap length post.weights ∙ length_padded most_pairs (map (λ p. p.amount) q.terms);
    }
