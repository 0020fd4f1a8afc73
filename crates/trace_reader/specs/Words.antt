-- The words that stand at the front of a text, each read back as what it says, with the text after it.
use Rattle.std.specs.Prelude.{ℕ, List, Option, Some, None, codes}
use Rattle.trace_reader.specs.declared.trace.Side.{Side}
use Rattle.trace_reader.specs.declared.trace.Side.TheVariants as sides
use Rattle.trace_reader.specs.declared.trace.Loss.{Loss}
use Rattle.trace_reader.specs.declared.trace.Loss.TheVariants.{Failed, Suspect}
use Rattle.trace_reader.specs.declared.trace.StopCode.{StopCode}
use Rattle.trace_reader.specs.declared.trace.StopCode.TheVariants as stops
use Rattle.trace_reader.specs.declared.trace.Width.{Width}
use Rattle.trace_reader.specs.declared.trace.Width.TheVariants.{Byte, Word, Double}
use Rattle.trace_reader.specs.declared.trace.JobArea.{JobArea}
use Rattle.trace_reader.specs.declared.trace.JobArea.TheVariants.{Memory, DataBlock as InBlock}
use Rattle.trace_reader.specs.declared.trace.Place.{Place}
use Rattle.trace_reader.specs.Fields.{◌>>=◌, after, byte_at, word_value_at, double_at, number_at}

abbrev pub choose : {A : Type 0} → Option (List ℕ) → (List ℕ → Option A) → Option A → Option A
choose (Some rest) reading other = reading rest
choose None reading other = other

-- this reading of what follows the word, where the text begins with the word; else the other
abbrev pub past : {A : Type 0} → List ℕ → List ℕ → (List ℕ → Option A) → Option A → Option A
past word text reading other = choose (after word text) reading other

unfoldable pub side_at : List ℕ → Option (Side × List ℕ)
side_at text =
    past (codes "A") text (λ rest. Some (sides.A, rest))
    (past (codes "B") text (λ rest. Some (sides.B, rest)) None)

unfoldable pub missing_ob_at : List ℕ → Option (StopCode × List ℕ)
missing_ob_at text =
    past (codes "NOOB121") text (λ rest. Some (stops.NoOb121, rest))
    (past (codes "NOOB122") text (λ rest. Some (stops.NoOb122, rest))
    (past (codes "NOOB85") text (λ rest. Some (stops.NoOb85, rest)) None))

unfoldable pub stop_at : List ℕ → Option (StopCode × List ℕ)
stop_at text =
    past (codes "CYCLE") text (λ rest. Some (stops.Cycle, rest))
    (past (codes "SFC46") text (λ rest. Some (stops.Sfc46, rest))
    (past (codes "DEPTH") text (λ rest. Some (stops.Depth, rest))
    (past (codes "LOCAL") text (λ rest. Some (stops.Local, rest))
    (past (codes "INERROR") text (λ rest. Some (stops.InError, rest))
    (missing_ob_at text)))))

unfoldable pub loss_at : List ℕ → Option (Loss × List ℕ)
loss_at text =
    past (codes " FAILED") text (λ rest. Some (Failed, rest))
    (past (codes " SUSPECT") text (λ rest. Some (Suspect, rest)) None)

unfoldable pub lost_at : List ℕ → Option ((Side × Loss) × List ℕ)
lost_at text = do
  begin ← after (codes "LOST ") text
  side ← side_at begin
  why ← loss_at side.1
  Some ((side.0, why.0), why.1)

unfoldable pub width_digit_at : List ℕ → Option (Width × List ℕ)
width_digit_at text =
    past (codes "1") text (λ rest. Some (Byte, rest))
    (past (codes "2") text (λ rest. Some (Word, rest))
    (past (codes "4") text (λ rest. Some (Double, rest)) None))

unfoldable pub width_letter_at : List ℕ → Option (Width × List ℕ)
width_letter_at text =
    past (codes "B") text (λ rest. Some (Byte, rest))
    (past (codes "W") text (λ rest. Some (Word, rest))
    (past (codes "D") text (λ rest. Some (Double, rest)) None))

-- a value of this width
unfoldable pub value_at : Width → List ℕ → Option (ℕ × List ℕ)
value_at Byte text = byte_at text
value_at Word text = word_value_at text
value_at Double text = double_at text

-- the area of a job and its width
unfoldable pub area_at : List ℕ → Option ((JobArea × Width) × List ℕ)
area_at text =
    past (codes "M") text
    (λ rest. width_letter_at rest >>= (λ width. Some ((Memory, width.0), width.1)))
    (after (codes "DB ") text >>= (λ rest. number_at 65535 rest >>= (λ number. after (codes " ") number.1 >>= (λ begin. width_letter_at begin >>= (λ width.
    Some ((InBlock number.0, width.0), width.1))))))

-- where a job reads or writes
unfoldable pub place_at : List ℕ → Option (Place × List ℕ)
place_at text = do
  area ← area_at text
  rest ← after (codes " ") area.1
  address ← number_at 65535 rest
  Some (record { area = area.0.0; width = area.0.1; at = address.0 }, address.1)
