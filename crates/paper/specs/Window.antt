-- The window: which of the accepted messages are in force, and which leave it.
-- Document 01, "Window, impact, rank", and document 02, T-01, T-02 and T-04. Assumes nothing.
use Rattle.std.specs.Prelude.{ℕ, ◌+◌, ◌-◌, Bool, true, false, cond, not, ◌&&◌, List, [], ◌∷◌, length, ltb}
use Rattle.paper.specs.Frame.{Pair, Urgency}

-- "N is 1 to 256 messages and T 1 to 65,535 seconds"
abbrev pub most_messages : ℕ
most_messages = 256

abbrev pub longest_life : ℕ
longest_life = 65535

-- An accepted message: its arrival time, serial, urgency and pairs of term and count, and whether it was cancelled since.
pub record Message : Type 0 where
  pub time : ℕ
  pub serial : ℕ
  pub urgency : Urgency
  pub pairs : List Pair
  pub cancelled : Bool

abbrev pub arrival : ℕ → ℕ → Urgency → List Pair → Message
arrival t s u ps = record { time = t; serial = s; urgency = u; pairs = ps; cancelled = false }

-- "noted as cancelled"
abbrev pub withdrawn : Message → Message
withdrawn m = record { time = m.time; serial = m.serial; urgency = m.urgency; pairs = m.pairs; cancelled = true }

-- "Age up to and including T now counts as in force": with any other age (clock less arrival time) an arrival at `time` is past
abbrev pub past : ℕ → ℕ → ℕ → Bool
past T clock time = ltb T (clock - time)

abbrev pub aged : ℕ → ℕ → Message → Bool
aged T clock m = past T clock m.time

-- "those of the last N accepted messages" that aren't past, "cancelled or not": a message after which `later` more were accepted
abbrev pub filling : ℕ → ℕ → ℕ → ℕ → Message → Bool
filling N T clock later m = ltb later N && not (aged T clock m)

-- those that fill a place, in the order of acceptance
unfoldable pub filled : ℕ → ℕ → ℕ → List Message → List Message
filled N T clock [] = []
filled N T clock (m ∷ l) = cond (filling N T clock (length l) m) (m ∷ filled N T clock l) (filled N T clock l)

-- in force are those that aren't cancelled: "It goes on filling its place among the last N"
abbrev pub standing : ℕ → ℕ → ℕ → ℕ → Message → Bool
standing N T clock later m = filling N T clock later m && not m.cancelled

-- those in force of all accepted messages, in the order of acceptance
unfoldable pub in_force : ℕ → ℕ → ℕ → List Message → List Message
in_force N T clock [] = []
in_force N T clock (m ∷ l) = cond (standing N T clock (length l) m) (m ∷ in_force N T clock l) (in_force N T clock l)

-- ---- a frame that cancels those messages that `off` picks, by how many were accepted later

-- a message after it
abbrev pub noted : (ℕ → Message → Bool) → ℕ → Message → Message
noted off later m = cond (off later m) (withdrawn m) m

-- "the paper log keeps it in its place"
unfoldable pub noting : (ℕ → Message → Bool) → List Message → List Message
noting off [] = []
noting off (m ∷ l) = noted off (length l) m ∷ noting off l

-- "departs with one before which it is in force and after which it isn't": as the clock moves on and `more` messages are added
unfoldable pub departing : ℕ → ℕ → ℕ → ℕ → ℕ → (ℕ → Message → Bool) → List Message → List Message
departing N T clock clock' more off [] = []
departing N T clock clock' more off (m ∷ l) =
    cond (standing N T clock (length l) m && not (standing N T clock' (length l + more) (noted off (length l) m)))
    (m ∷ departing N T clock clock' more off l)
    (departing N T clock clock' more off l)

-- those in force before and after
unfoldable pub remaining : ℕ → ℕ → ℕ → ℕ → ℕ → (ℕ → Message → Bool) → List Message → List Message
remaining N T clock clock' more off [] = []
remaining N T clock clock' more off (m ∷ l) =
    cond (standing N T clock (length l) m && standing N T clock' (length l + more) (noted off (length l) m))
    (m ∷ remaining N T clock clock' more off l)
    (remaining N T clock clock' more off l)
