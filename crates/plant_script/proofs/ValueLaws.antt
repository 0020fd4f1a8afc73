-- What the last value of a byte says.
use Rattle.std.proofs.Common.{◌≡◌, ℕ, List, [], ◌∷◌, Option, Some, None, refl}
use Rattle.std.specs.Prelude.{All}
use Rattle.std.specs.List.{fold}
use Rattle.std.specs.Option.{option_or}
use Rattle.std.proofs.lemmas.List.Elements.{All-nil, All-cons, All-head, All-tail}
use Rattle.s7_events.specs.declared.entry.Side.{Side}
use Rattle.plant_script.specs.declared.plan.Event.{Event}
use Rattle.plant_script.specs.Values.{value_by_event, last_value}

-- ---- where there is none

module _ (at_byte : ℕ) (side : Option Side) (moment : ℕ) where
  abbrev gives_none : Event → Type 0
  gives_none event = value_by_event at_byte side moment event ≡ None

  abbrev step : Option ℕ → Event → Option ℕ
  step before event = option_or (value_by_event at_byte side moment event) before

  both_none : (o p : Option ℕ) → option_or o p ≡ None → (o ≡ None) × (p ≡ None)
  both_none None p e = (refl, e)
  both_none (Some x) p e = absurd cc

  none_takes : (before : Option ℕ) (events : List Event) → fold step before events ≡ None → (before ≡ None) × All gives_none events
  none_takes before [] e = (e, All-nil gives_none)
  none_takes before (event ∷ events) e =
      let later = none_takes (step before event) events e in
      let here = both_none (value_by_event at_byte side moment event) before later.0 in
      (here.1, All-cons gives_none event events here.0 later.1)

  none_again : (before : Option ℕ) (events : List Event) → before ≡ None → All gives_none events → fold step before events ≡ None
  none_again before [] is all = is
  none_again before (event ∷ events) is all =
      let here : value_by_event at_byte side moment event ≡ None = All-head gives_none event events all in
      let next : step before event ≡ None = rw here is in
      none_again (step before event) events next (All-tail gives_none event events all)

  pub last_none_takes : (events : List Event) → last_value events at_byte side moment ≡ None → All gives_none events
  last_none_takes events e = (none_takes None events e).1

  pub last_none_again : (events : List Event) → All gives_none events → last_value events at_byte side moment ≡ None
  last_none_again events all = none_again None events refl all
