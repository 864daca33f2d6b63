-- The state's numbers are read as its block is, and the number behind them.
use Rattle.std.proofs.Common.{◌≡◌, ℕ, List, [], ◌∷◌, get_or, refl, ap, ◌∙◌}
use Rattle.reassembly.specs.declared.State.{State}
use Rattle.replay.specs.declared.Player.{Player}
use Rattle.hoursquall.specs.Reassembly.{state_of_def}
use Rattle.hoursquall_replay.proofs.player_of.Goals as goal

-- a state is read off eight numbers
eight : (b : List ℕ)
    → state_of_def (get_or b 0 0 ∷ get_or b 1 0 ∷ get_or b 2 0 ∷ get_or b 3 0 ∷ get_or b 4 0 ∷ get_or b 5 0 ∷ get_or b 6 0 ∷ get_or b 7 0 ∷ []) ≡ state_of_def b
unfolding state_of_def
eight b = refl

pub returns : goal.returns
returns c = let b = c.args.b in ap (λ (s : State). playing s (get_or b 8 0)) (c.state_of.ensures ∙ eight b)
  where
    playing : State → ℕ → Player
    playing s n = record { state = s; number = n }
