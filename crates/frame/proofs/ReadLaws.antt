-- Laws of a frame that is read: what its number says of its shape. Assumes nothing.
use Prim.Native.Nat.{ℕ, ◌+◌, ◌-◌, ◌*◌, ◌≤◌, ◌<◌}
use native.Mathlib.Omega.{arith}
use mathlib.Core.Path.{◌≡◌, refl, sym, ap, ◌∙◌, subst}
use mathlib.Core.Bool.{Bool, true, false, cond}
use mathlib.Core.List.{List, []}
use lib.ListN.{length, get_or, length-map}
use lib.Dec.{eqb, lit<}
use borrow.Author.Tests.{ne_eqb, eqb-true, eqb-false, lt-ltb, le-ltb}
use Rattle.std.specs.Prelude.{Result, Ok, Err, IsErrAnd}
use Rattle.wire.specs.Field.{field, total, scan}
use Rattle.paper.specs.Frame.{Pair, Shape, Row as TableRow, kind_width, no_row, row_of, width, widths, values_at, pairs_by, grades_known, frame_of}
use Rattle.paper.specs.Frame.{shape_of_kind, check, positive, rising, pairs_at, bits_of, bytes_for, fill_after, term_width, most_pairs}
use Rattle.paper.specs.Frame.Shape.{refused, accepted}
use Rattle.paper.specs.Refusal.{number_of}
use Rattle.paper.specs.Write.{pairs_in}
use Rattle.paper.specs.declared.refusal.Refusal.{Refusal}
use Rattle.paper.specs.declared.refusal.Refusal.TheVariants.{Short, Kind, Length, Fill, Value, Order, Time, Serial, InUse, NotInUse, Start, Memory}
use Rattle.paper.specs.declared.refusal.Refusal.TheVariants.{NotInForce, Urgency}
use Rattle.paper.proofs.FrameLaws.{by_kind, length_pairs}
use Rattle.frame.specs.declared.Kind.{Kind as Answer}
use Rattle.frame.specs.declared.PairList.{PairList}
use Rattle.frame.specs.declared.Row.{Row}
use Rattle.frame.specs.Read.{ReadFrame, RowPost, FramedPost, PairsPost, CheckedPost, padded, term_array, amount_array}
use Rattle.frame.specs.Read.{pairs_number, fit_number, check_number}
use Rattle.frame.proofs.HeadLaws.{small, get_d_padded, frame_padded, grades_padded, pairs_light}

-- every refusal has a number
pub refusal_pos : (e : Refusal) → number_of e ≡ 0 → ⊥
refusal_pos Short z = absurd (omega arith)
refusal_pos Kind z = absurd (omega arith)
refusal_pos Length z = absurd (omega arith)
refusal_pos Fill z = absurd (omega arith)
refusal_pos Value z = absurd (omega arith)
refusal_pos Order z = absurd (omega arith)
refusal_pos Time z = absurd (omega arith)
refusal_pos Serial z = absurd (omega arith)
refusal_pos InUse z = absurd (omega arith)
refusal_pos NotInUse z = absurd (omega arith)
refusal_pos Start z = absurd (omega arith)
refusal_pos Memory z = absurd (omega arith)
refusal_pos NotInForce z = absurd (omega arith)
refusal_pos Urgency z = absurd (omega arith)

-- a refusal that `?` passes on stays what it is
pub passed_on : {A : Type 0} (r : Result A Refusal) (e : Refusal) → IsErrAnd r (λ x. x ≡ e) → r ≡ Err e
passed_on (Ok x) e h = absurd h
passed_on (Err x) e h = ap Err h

-- where nothing of 3 and 4 applies the length is right
pub fit_length : (s : List ℕ) (b : ℕ) → 0 ≡ fit_number s b → length s ≡ bytes_for b
unfolding fit_number
fit_length s b e = go (eqb (length s) (bytes_for b)) refl e
  where
    go : (t : Bool) → eqb (length s) (bytes_for b) ≡ t → ◌≡◌ {A = ℕ} 0 (cond t (cond (eqb (field s b (fill_after b)) 0) 0 4) 3) → length s ≡ bytes_for b
    go true h e = eqb-true (length s) (bytes_for b) h
    go false h e = absurd (omega arith)

module _ (s : List ℕ) (h w m : ℕ) (known : Bool) where
  -- refused by 3 or 4
  pub checked_misfit : (e : Refusal) → number_of e ≡ fit_number s (h + m * (term_width + w)) → CheckedPost s h w m known (Err e)
  unfolding check_number
  checked_misfit e en = (rw (← en, ne_eqb (number_of e) 0 (refusal_pos e)), tt)

  module _ (fits : 0 ≡ fit_number s (h + m * (term_width + w))) where
    -- the grade decides, and then the pairs
    pub checked_grade : known ≡ false → CheckedPost s h w m known (Err Urgency)
    unfolding check_number
    checked_grade k = (rw (← fits, k), tt)

    pub checked_taken : (r : Result PairList Refusal) → known ≡ true → PairsPost s h w m r → CheckedPost s h w m known r
    unfolding check_number
    checked_taken (Ok p) k post = (rw (← fits, k) post.0, (fit_length s (h + m * (term_width + w)) fits, post.1))
    checked_taken (Err e) k post = (rw (← fits, k) post.0, tt)

-- the number by the five tests: 3, 4, 14, 5 and 6 in order
abbrev number_by : Bool → Bool → Bool → Bool → Bool → ℕ
number_by a b g c d = cond (eqb (cond a (cond b 0 4) 3) 0) (cond g (cond c (cond d 0 6) 5) 14) (cond a (cond b 0 4) 3)

outcome : (x : Shape) (a b g c d : Bool)
    → cond a (cond b (cond g (cond c (cond d x (refused 6)) (refused 5)) (refused 14)) (refused 4)) (refused 3)
    ≡ cond (eqb (number_by a b g c d) 0) x (refused (number_by a b g c d))
outcome x false b g c d = refl
outcome x true false g c d = refl
outcome x true true false c d = refl
outcome x true true true false d = refl
outcome x true true true true false = refl
outcome x true true true true true = refl

module _ (s head : List ℕ) (w m : ℕ) (known : Bool) where
  -- no frame is accepted whose grade isn't known
  pub grade_known_lem : check_number s (total head) w m known ≡ 0 → known ≡ true
  unfolding check_number fit_number
  grade_known_lem = go (eqb (length s) (bytes_for (bits_of head w m))) (eqb (field s (bits_of head w m) (fill_after (bits_of head w m))) 0) known _
    where
      go : (a b g : Bool) (n : ℕ) → ◌≡◌ {A = ℕ} (cond (eqb (cond a (cond b 0 4) 3) 0) (cond g n 14) (cond a (cond b 0 4) 3)) 0 → g ≡ true
      go a b true n e = refl
      go true true false n e = absurd (omega arith)
      go true false false n e = absurd (omega arith)
      go false b false n e = absurd (omega arith)

  module _ (make : List Pair → Shape) where
    -- a frame is refused by its number, and accepted where that is 0
    pub check_by : check s head w m known make
        ≡ cond (eqb (check_number s (total head) w m known) 0) (make (pairs_at s (total head) w m)) (refused (check_number s (total head) w m known))
    unfolding check check_number fit_number pairs_number
    check_by =
        outcome (make (pairs_at s (total head) w m)) (eqb (length s) (bytes_for (bits_of head w m)))
        (eqb (field s (bits_of head w m) (fill_after (bits_of head w m))) 0) known
        (positive (pairs_at s (total head) w m)) (rising (pairs_at s (total head) w m))

    pub read_refused : (e : Refusal) → CheckedPost s (total head) w m known (Err e) → check s head w m known make ≡ refused (number_of e)
    read_refused e post = rw (check_by, ← post.0, ne_eqb (number_of e) 0 (refusal_pos e))

    pub read_made : (p : PairList) → CheckedPost s (total head) w m known (Ok p) → check s head w m known make ≡ make (pairs_at s (total head) w m)
    read_made p post = rw (check_by, ← post.0)

    -- a length that this number of pairs doesn't need
    pub read_short : (length s ≡ bytes_for (bits_of head w m) → ⊥) → check s head w m known make ≡ refused 3
    unfolding check
    read_short h = rw (ne_eqb (length s) (bytes_for (bits_of head w m)) h)

-- ---- the rest of a frame, by its row

abbrev pairs_read : Shape → List Pair
pairs_read (accepted f) = pairs_in f
pairs_read (refused r) = []

-- a frame has the pairs that its values say, and none where its kind has none
pairs_framed : (s vs : List ℕ) (at k : ℕ) → 0 < length (row_of k).head → let ps = pairs_at s at (row_of k).amount (pairs_by (row_of k) vs) in
    pairs_read (frame_of k vs ps) ≡ ps
unfolding row_of frame_of pairs_at
pairs_framed s vs at =
    by_kind (λ k. 0 < length (row_of k).head → let ps = pairs_at s at (row_of k).amount (pairs_by (row_of k) vs) in pairs_read (frame_of k vs ps) ≡ ps)
    (λ _. refl)
    (λ _. refl)
    (λ _. refl)
    (λ _. refl)
    (λ _. refl)
    (λ _. refl)
    (λ _. refl)
    (λ k none h. let z : 0 < length no_row.head = subst (λ (row : TableRow). 0 < length row.head) none h in absurd (omega arith))

module _ (s : List ℕ) (k : ℕ) where
  unknown : length (row_of k).head ≡ 0 → shape_of_kind k s ≡ refused 2
  unfolding shape_of_kind
  unknown h = rw (le-ltb 0 (length (row_of k).head) (omega arith))

  by_row : 0 < length (row_of k).head
      → shape_of_kind k s ≡ check s (widths (row_of k)) (row_of k).amount (pairs_by (row_of k) (values_at s (row_of k)))
      (grades_known (row_of k).head (values_at s (row_of k))) (frame_of k (values_at s (row_of k)))
  unfolding shape_of_kind
  by_row h = rw (lt-ltb 0 (length (row_of k).head) h)

-- ---- by the code's row

pub not_empty : (ws : List ℕ) → false ≡ eqb (length ws) 0 → 0 < length ws
not_empty ws e = let n = eqb-false (length ws) 0 (sym e) in omega arith

pub unknown_row : (s : List ℕ) (k : ℕ) (r : Row) → RowPost (row_of k) r → true ≡ eqb (length r.widths.now) 0 → shape_of_kind k s ≡ refused 2
unknown_row s k r row e =
    unknown s k (omega (arith, eqb-true (length r.widths.now) 0 (sym e), ap length row.widths, length-map (row_of k).head width))

module _ (s : List ℕ) (k : ℕ) (r : Row) (row : RowPost (row_of k) r) (has : 0 < length r.widths.now) where
  head_has : 0 < length (row_of k).head
  head_has = omega (arith, ap length row.widths, length-map (row_of k).head width)

  -- too short for any pair
  pub kind_short : length s < bytes_for r.bits → shape_of_kind k s ≡ refused 3
  kind_short h =
      let table = row_of k in
      let vs = values_at s table in
      by_row s k head_has
      ∙ read_short s (widths table) table.amount (pairs_by table vs) (grades_known table.head vs) (frame_of k vs) (λ e. omega (arith, row.bits))

-- what the reader knows once it has counted the pairs
pub record Headed (s : List ℕ) (k : ℕ) (r : Row) (values : List ℕ) (m : ℕ) : Type 0 where
  pub row : RowPost (row_of k) r
  pub has : 0 < length r.widths.now
  pub read : values ≡ padded 5 (scan s kind_width r.widths.now)
  pub said : m ≡ cond (eqb r.amount 0) 0 (get_or values (length r.widths.now - 1) 0 + 1)

module _ {s : List ℕ} {k : ℕ} {r : Row} {values : List ℕ} {m : ℕ} (head : Headed s k r values m) where
  abbrev table : TableRow
  table = row_of k

  abbrev said_values : List ℕ
  said_values = values_at s table

  read_as : values ≡ padded 5 said_values
  read_as = head.read ∙ rw head.row.widths

  pairs_said : m ≡ pairs_by table said_values
  pairs_said =
      let places = (small s k).places in
      let l = head_has s k r head.row head.has in
      rw (head.said, head.row.amount, read_as, head.row.widths, length-map table.head width, get_d_padded 5 said_values (length table.head - 1) (omega arith))

  -- the pairs end within the arrays
  pub few : (m ≤ most_pairs) × (r.amount ≤ 8) × (r.bits + m * (10 + r.amount) ≤ 1024)
  few =
      let b = small s k in
      let n : m ≤ most_pairs = rw pairs_said b.few in
      let w : r.amount ≤ 8 = rw head.row.amount b.light in
      (n, w, omega (arith, b.short, head.row.bits, pairs_light m r.amount n w))

  pub third : get_or values 2 0 < 16
  third = rw (read_as, get_d_padded 5 said_values 2 (lit< tt)) (small s k).third

  grades_said : grades_known table.head values ≡ grades_known table.head said_values
  grades_said = rw read_as (grades_padded table.head 5 said_values (small s k).places)

  module _ {known : Bool} (graded : known ≡ grades_known table.head values) where
    checked_as : (p : Result PairList Refusal) → CheckedPost s r.bits r.amount m known p
        → CheckedPost s (total (widths table)) table.amount (pairs_by table said_values) (grades_known table.head said_values) p
    checked_as p post = rw (head.row.bits, head.row.amount, pairs_said, graded ∙ grades_said) at post

    pub kind_refused : (e : Refusal) → CheckedPost s r.bits r.amount m known (Err e) → shape_of_kind k s ≡ refused (number_of e)
    kind_refused e post =
        by_row s k (head_has s k r head.row head.has)
        ∙ read_refused s (widths table) table.amount (pairs_by table said_values) (grades_known table.head said_values) (frame_of k said_values) e
        (checked_as (Err e) post)

    module _ (p : PairList) (post : CheckedPost s r.bits r.amount m known (Ok p)) where
      abbrev found : List Pair
      found = pairs_at s (total (widths table)) table.amount (pairs_by table said_values)

      is_known : grades_known table.head values ≡ true
      is_known =
          grades_said
          ∙ grade_known_lem s (widths table) table.amount (pairs_by table said_values) (grades_known table.head said_values) (sym (checked_as (Ok p) post).0)

      count : m ≡ length found
      count = pairs_said ∙ sym (length_pairs s (total (widths table)) table.amount (pairs_by table said_values))

      same_frame : frame_of k values found ≡ frame_of k said_values found
      same_frame = rw read_as (frame_padded k said_values found)

      shape_as : shape_of_kind k s ≡ frame_of k values found
      shape_as =
          by_row s k (head_has s k r head.row head.has)
          ∙ read_made s (widths table) table.amount (pairs_by table said_values) (grades_known table.head said_values) (frame_of k said_values) p
          (checked_as (Ok p) post)
          ∙ sym same_frame

      pub kind_unframed : (e : Refusal) → FramedPost k values m (Err e) → shape_of_kind k s ≡ refused (number_of e)
      kind_unframed e framed = shape_as ∙ framed found is_known count

      pub kind_framed : (what : Answer) → FramedPost k values m (Ok what)
          → ReadFrame (shape_of_kind k s) (record { what = what; terms = p.terms; amounts = p.amounts })
      kind_framed what framed =
          let made = framed found is_known count in
          let same : pairs_in made.0 ≡ found =
          ap pairs_read {x = accepted made.0} {y = frame_of k said_values found} (sym made.1 ∙ same_frame)
          ∙ pairs_framed s said_values (total (widths table)) k (head_has s k r head.row head.has) in
          let arrays = (checked_as (Ok p) post).1.1 in
          record {
            frame = made.0;
            is = shape_as ∙ made.1;
            what = made.2;
            terms = arrays.terms ∙ ap term_array (sym same);
            amounts = arrays.amounts ∙ ap amount_array (sym same);
          }
