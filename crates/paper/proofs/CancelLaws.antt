-- A message cancelled: no other in force has its serial, so it alone departs besides those that leave their places. Assumes nothing.
use Prim.Native.Nat.{ℕ, ◌≤◌}
use mathlib.Core.Path.{◌≡◌, refl, sym, ap, ap₂, ◌∙◌, subst}
use mathlib.Core.Bool.{Bool, false, cond, not, ◌&&◌}
use mathlib.Core.List.{List, [], ◌∷◌, ◌++◌, map, map-append}
use lib.Dec.{eqb}
use borrow.Author.Tests.{eq-eqb, ne_eqb, eqb-false}
use Rattle.paper.specs.Frame.Frame.{cancel}
use Rattle.paper.specs.Sort.{select}
use Rattle.paper.specs.Window.{Message, withdrawn}
use Rattle.paper.specs.Log.{Log, in_force_at, filled_now, filled_at, has_serial, accept, departs, stays}
use Rattle.paper.specs.Sound.{Distinct, Sound}
use Rattle.paper.proofs.Tests.{by_bool, or_false}
use Rattle.paper.proofs.SortLaws.{select_append}
use Rattle.paper.proofs.WindowLaws.{active, named, unnamed, withdrawing, in_force_filled}
use Rattle.paper.proofs.LogLaws.{vacates, distinct_at, departs_cancelled, stays_cancelled, places_cancelled}

-- ---- a serial that none has

module _ (s : ℕ) where
  serial_append : (xs ys : List Message) → has_serial s (xs ++ ys) ≡ false → (has_serial s xs ≡ false) × (has_serial s ys ≡ false)
  unfolding has_serial
  serial_append [] ys e = (refl, e)
  serial_append (x ∷ xs) ys e =
      let p = or_false (eqb x.serial s) (has_serial s (xs ++ ys)) e in
      let r = serial_append xs ys p.1 in
      (rw (p.0, r.0), r.1)

  named_none : (l : List Message) → has_serial s l ≡ false → (select (named s) l ≡ []) × (select (unnamed s) l ≡ l)
  unfolding has_serial select
  named_none [] e = (refl, refl)
  named_none (m ∷ l) e =
      let p = or_false (eqb m.serial s) (has_serial s l) e in
      let r = named_none l p.1 in
      (rw p.0 r.0, rw (p.0, r.1))

  withdrawing_none : (l : List Message) → has_serial s (select active l) ≡ false → map (withdrawing s) l ≡ l
  unfolding has_serial select
  withdrawing_none [] e = refl
  withdrawing_none (m ∷ l) e =
      by_bool m.cancelled
      (λ c. rw (c, withdrawing_none l (rw c at e)))
      (λ c. let p = or_false (eqb m.serial s) (has_serial s (select active l)) (rw c at e) in rw (c, p.0, withdrawing_none l p.1))

-- ---- one that has it, where no two share a serial

distinct_parts : (xa : List Message) (c : Message) (xb : List Message) → Distinct (xa ++ (c ∷ xb))
    → (has_serial c.serial xa ≡ false) × (has_serial c.serial xb ≡ false)
unfolding has_serial
distinct_parts [] c xb d = (refl, d.0)
distinct_parts (x ∷ xa) c xb d =
    let r = distinct_parts xa c xb d.1 in
    let p = or_false (eqb c.serial x.serial) (has_serial x.serial xb) (serial_append x.serial xa (c ∷ xb) d.0).1 in
    (rw (ne_eqb x.serial c.serial (λ e. eqb-false c.serial x.serial p.0 (sym e)), r.0), r.1)

-- What is left of a log when message c is cancelled, which fills a place after `fa` and before `fb`.
pub record Withdrawal (log : Log) (t s : ℕ) (fa : List Message) (c : Message) (fb : List Message) : Type 0 where
  pub departs_are : departs log (cancel t s) ≡ select active (vacates log t 0) ++ (c ∷ [])
  pub stays_are : stays log (cancel t s) ≡ select active fa ++ select active fb
  pub places_are : filled_now (accept log (cancel t s)) ≡ fa ++ (withdrawn c ∷ fb)

pub withdrawal : (log : Log) (t s : ℕ) → Sound log → log.clock ≤ t → (fa : List Message) (c : Message) (fb : List Message)
    → filled_at log t ≡ fa ++ (c ∷ fb) → c.cancelled ≡ false → c.serial ≡ s → Withdrawal log t s fa c fb
unfolding select
withdrawal log t s sound late fa c fb parts on has = record {
  departs_are = departs_cancelled log t s sound late ∙ ap (λ (l : List Message). select active (vacates log t 0) ++ l) (ap (select (named s)) shown ∙ alone);
  stays_are = stays_cancelled log t s sound late ∙ ap (select (unnamed s)) shown ∙ others;
  places_are = places_cancelled log t s sound late ∙ ap (map (withdrawing s)) parts ∙ noted_there;
}
  where
    xa : List Message
    xa = select active fa

    xb : List Message
    xb = select active fb

    shown : in_force_at log t ≡ xa ++ (c ∷ xb)
    shown =
        in_force_filled log.N log.T t log.messages
        ∙ ap (select active) parts
        ∙ select_append active fa (c ∷ fb)
        ∙ ap (λ (b : Bool). xa ++ cond (not b) (c ∷ xb) xb) on

    apart : (has_serial s xa ≡ false) × (has_serial s xb ≡ false)
    apart = subst (λ (n : ℕ). (has_serial n xa ≡ false) × (has_serial n xb ≡ false)) has
        (distinct_parts xa c xb (subst Distinct shown (distinct_at log t sound late)))

    alone : select (named s) (xa ++ (c ∷ xb)) ≡ c ∷ []
    alone =
        select_append (named s) xa (c ∷ xb)
        ∙ ap₂ (λ (l : List Message) (b : Bool). l ++ cond b (c ∷ select (named s) xb) (select (named s) xb)) (named_none s xa apart.0).0 (eq-eqb c.serial s has)
        ∙ ap (λ (l : List Message). c ∷ l) (named_none s xb apart.1).0

    others : select (unnamed s) (xa ++ (c ∷ xb)) ≡ xa ++ xb
    others =
        select_append (unnamed s) xa (c ∷ xb)
        ∙ ap₂ (λ (l : List Message) (b : Bool). l ++ cond (not b) (c ∷ select (unnamed s) xb) (select (unnamed s) xb)) (named_none s xa apart.0).1
        (eq-eqb c.serial s has)
        ∙ ap (λ (l : List Message). xa ++ l) (named_none s xb apart.1).1

    noted_there : map (withdrawing s) (fa ++ (c ∷ fb)) ≡ fa ++ (withdrawn c ∷ fb)
    noted_there =
        map-append (withdrawing s) fa (c ∷ fb)
        ∙ ap₂ ◌++◌ (withdrawing_none s fa apart.0)
        (ap₂ (λ (m : Message) (l : List Message). m ∷ l)
        (ap₂ (λ (a b : Bool). cond (not a && b) (withdrawn c) c) on (eq-eqb c.serial s has)) (withdrawing_none s fb apart.1))
