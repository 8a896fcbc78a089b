-- `search` meets its contract. Assumes nothing.
use Prim.Native.Nat.{◌≤◌}
use native.Mathlib.Omega.{arith}
use mathlib.Core.Path.{◌≡◌}
use borrow.Author.Rules.{rules, length_unmapped}
use Rattle.paper.specs.Layout.{slots}
use Rattle.candidates.proofs.FlagLaws.{zero_at}
use Rattle.candidates.proofs.RowLaws.{having_shares}
use Rattle.query.proofs.SettleLaws.{Sixteen}
use Rattle.search.proofs.FoundLaws.{picked_size, found_list, found_read, none_found}
use Rattle.search.proofs.search.Goals as goal

-- no slot is picked
pub returns-then-m-eq0 : goal.returns-then-m-eq0
returns-then-m-eq0 c =
    let picked = c.having-m.ensures in
    let nothing = c.none.ensures in
    let long : Sixteen c.none.result = record {
      most = omega (arith, nothing.count);
      serials = search (rules, length_unmapped);
      keys = search (rules, length_unmapped);
    } in
    let zero : c.having-m.result ≡ 0 = omega arith in
    record {
      most = long.most;
      tidy = nothing.tidy;
      right = λ ms q over distinct terms is.
          none_found (rw zero at (having_shares (picked.right is.rising is.known))) over distinct terms is nothing long;
    }

pub look-requires-clause-rows_len : goal.look-requires-clause-rows_len
look-requires-clause-rows_len c = (search rules, λ i. zero_at 2313 i)

pub returns : goal.returns
returns c =
    let few : c.having-m.result ≤ slots = omega (arith, c.having-m.ensures.within, c.requires.0) in
    let sixteen : Sixteen c.ranked_rows-list.result = record {
      most = omega (arith, c.ranked_rows-list.ensures.within, c.requires.1.k_most);
      serials = search (rules, length_unmapped);
      keys = search (rules, length_unmapped);
    } in
    let picked = c.having-m.ensures in
    let fit = c.requires.1 in
    let looked = c.look.ensures.right in
    let ranked = c.ranked_rows-list.ensures in
    let size = picked_size picked few in
    record {
      most = sixteen.most;
      tidy = ranked.tidy;
      right = λ ms q over distinct terms is.
          let js = having_shares (picked.right is.rising is.known) in (
            found_list js looked ranked over distinct terms is,
            found_read js looked ranked over distinct terms is c.postings_read.result {cols = c.put_columns.new.columns} fit sixteen
                (omega (arith, size, few)) (rw size c.put_columns.ensures) (rw size c.postings_read.ensures),
          );
    }
