-- A query's list changed in place is the ranking after the change. Assumes nothing.
use Prim.Native.Nat.{ℕ, ◌≤◌, ◌<◌}
use native.Mathlib.Omega.{arith}
use mathlib.Core.Path.{◌≡◌, refl, subst}
use mathlib.Core.Logic.{◌⊎◌, inl, inr, ⊎_elim}
use mathlib.Core.List.{List, [], ◌∷◌, ◌++◌}
use lib.ListN.{length, take}
use Rattle.paper.specs.Window.{Message}
use Rattle.paper.specs.Impact.{score}
use Rattle.paper.specs.Sort.{select, insert}
use Rattle.paper.specs.Rank.{Query, Entry, key_factor, key, ahead, entry, ranking}
use Rattle.paper.specs.Order.{In, Split}
use Rattle.paper.specs.Threshold.{last_score}
use Rattle.paper.specs.Sound.{Distinct}
use Rattle.paper.proofs.FrameLaws.{level_most}
use Rattle.paper.proofs.SortLaws.{in_left}
use Rattle.paper.proofs.LeadLaws.{Leads, AtLeast, last_key, last_key_score, ranking_last_key, entry_stays, at_least_gone, at_least_come}
use Rattle.paper.proofs.LeadLaws.{leads_full, leads_short, leads_entry, leads_ranking, leads_whole, leads_gone, none_gone, leads_come, leads_none, leads_low}

-- A list that changes in place: it leads the ranking of some messages, and a message changes it where its key is at least `least`. Either nothing that
-- is left out has more than that, or nothing that scores is left out.
pub record Placed (q : Query) (bound least : ℕ) (ms : List Message) (es : List Entry) : Type 0 where
  pub leads : Leads q ms bound es
  pub high : AtLeast least es
  pub whole : (bound ≡ least) ⊎ ((bound ≡ 0) × (least ≡ key_factor))
  pub positive : key_factor ≤ least

module _ (q : Query) where
  -- a ranking is one, with the key of its last entry where it is full
  pub placed_full : (ms : List Message) → 1 ≤ q.k → length (ranking q ms) ≡ q.k → 0 < last_score (ranking q ms)
      → Placed q (last_key (ranking q ms)) (last_key (ranking q ms)) ms (ranking q ms)
  placed_full ms k full h = record {
    leads = leads_full q ms k full;
    high = ranking_last_key q ms;
    whole = inl refl;
    positive = omega (arith, last_key_score (ranking q ms));
  }

  pub placed_short : (ms : List Message) → length (ranking q ms) < q.k → Placed q 0 key_factor ms (ranking q ms)
  placed_short ms short =
      let l = leads_short q ms short 0 in
      record { leads = l; high = λ x i. omega (arith, (leads_entry q l x (first x i)).2); whole = inr (refl, refl); positive = omega arith }
    where
      first : (x : Entry) → In x (ranking q ms) → In x (ranking q ms ++ (leads_short q ms short 0).rest)
      first x i = in_left x (ranking q ms) (leads_short q ms short 0).rest i

  module _ {bound least : ℕ} {es : List Entry} where
    -- messages leave
    module _ {all gone stay : List Message} (split : Split all gone stay) (distinct : Distinct all) (p : Placed q bound least all es) where
      pub placed_gone : Placed q bound least stay (select (entry_stays gone) es)
      placed_gone = record {
        leads = leads_gone q split distinct p.leads;
        high = at_least_gone gone least es p.high;
        whole = p.whole;
        positive = p.positive;
      }

      pub placed_left : ((m : Message) → In m gone → key (entry (score q.terms) m) < least) → Placed q bound least stay es
      placed_left low = subst (Placed q bound least stay) (none_gone q split distinct p.leads least low p.high) placed_gone

    -- a message comes
    module _ {ms : List Message} (m : Message) (p : Placed q bound least ms es) where
      pub placed_come : least ≤ key (entry (score q.terms) m) → Placed q bound least (ms ++ (m ∷ [])) (insert ahead (entry (score q.terms) m) es)
      placed_come h = record {
        leads = leads_come q m p.leads (⊎_elim (λ e. omega arith) (λ e. omega (arith, e.0)) p.whole) (omega (arith, p.positive, level_most m.urgency));
        high = at_least_come (entry (score q.terms) m) least es h p.high;
        whole = p.whole;
        positive = p.positive;
      }

      pub placed_low : key (entry (score q.terms) m) < least → Placed q bound least (ms ++ (m ∷ [])) es
      placed_low h = record {
        leads =
            ⊎_elim
            (λ e. leads_low q m p.leads (λ x i. omega (arith, p.high x i)) (omega arith))
            (λ e. leads_none q m p.leads (omega (arith, e.1)))
            p.whole;
        high = p.high;
        whole = p.whole;
        positive = p.positive;
      }

    -- THE LAW: cut to k it is the ranking, where it has k entries or nothing is left out
    pub placed_ranking : {ms : List Message} → Placed q bound least ms es → (q.k ≤ length es) ⊎ (bound ≡ 0) → take q.k es ≡ ranking q ms
    placed_ranking p (inl h) = leads_ranking q p.leads h
    placed_ranking {ms} p (inr none) = leads_whole q (subst (λ (b : ℕ). Leads q ms b es) none p.leads)
