-- What is told of a refusal: a number that isn't 0, and no entry of a list. Assumes nothing.
use Prim.Native.Nat.{ℕ, zero, suc}
use mathlib.Core.Path.{◌≡◌, refl}
use mathlib.Core.Bool.{false}
use mathlib.Core.List.{[]}
use lib.ListN.{get_or, replicate}
use lib.Dec.{eqb}
use borrow.Author.Tests.{ne_eqb}
use Rattle.paper.specs.declared.refusal.Refusal.{Refusal}
use Rattle.paper.specs.Frame.{most_listed}
use Rattle.paper.specs.Refusal.{number_of}
use Rattle.rank.specs.Listing.{listed, lines_of, TidyLines}
use Rattle.frame.proofs.ReadLaws.{refusal_pos}
use Rattle.engine.specs.Told.{no_entry}

-- none is that of an answer
pub not_0 : (e : Refusal) → eqb (number_of e) 0 ≡ false
not_0 e = ne_eqb (number_of e) 0 (refusal_pos e)

pub zeros_at : (n i : ℕ) → get_or {A = ℕ} (replicate n 0) i 0 ≡ 0
zeros_at zero i = refl
zeros_at (suc n) zero = refl
zeros_at (suc n) (suc i) = zeros_at n i

pub no_entry_tidy : TidyLines no_entry
no_entry_tidy = record { serials = λ i _. zeros_at most_listed i; values = λ i _. zeros_at most_listed i }

pub no_entry_listed : lines_of no_entry ≡ []
unfolding listed
no_entry_listed = refl
