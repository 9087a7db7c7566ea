-- What holds after every list of calls, from its three parts.
use Rattle.std.proofs.Common.{◌≡◌, List, Ok, subst}
use Rattle.board.specs.Plans.{Parts, planned}
use Rattle.kernel.specs.declared.call.Call.{Call}
use Rattle.kernel.specs.States.{State}
use Rattle.kernel.specs.Rules.{Chooses, Ranks}
use Rattle.kernel.specs.Histories.{after, history}
use Rattle.kernel.specs.Afterwards.{SoundHistory, SoundHoweverLed}
use Rattle.kernel.proofs.Legal.{legal}
use Rattle.kernel.proofs.Owing.{KeepsPolicy, KeepsRanks}
use Rattle.kernel.proofs.Nesting.{nesting_after}
use Rattle.kernel.proofs.Raising.{raising_after}
use Rattle.kernel.proofs.Running.{running_after}

-- for every legal plan, every policy and every nesting rule that keeps what it owes, after every list of calls
sound_after_every_list :
    (plan : Parts) (choose : Chooses) (rank : Ranks) → planned plan ≡ Ok plan → KeepsPolicy choose → KeepsRanks rank →
    (calls : List Call) → SoundHistory plan choose rank (after plan choose rank calls)
sound_after_every_list plan choose rank ok policy ranks calls =
    let sure = legal plan ok in
    record {
      running = running_after plan choose rank sure policy calls;
      nesting = nesting_after plan choose rank ranks calls;
      raises = raising_after plan sure.few_lines choose rank calls;
    }

-- the same about a state, whatever list led to it
pub sound_where_led :
    (plan : Parts) (choose : Chooses) (rank : Ranks) → planned plan ≡ Ok plan → KeepsPolicy choose → KeepsRanks rank → (s : State) → SoundHoweverLed plan choose rank s
sound_where_led plan choose rank ok policy ranks s calls led =
    subst (λ (x : State). SoundHistory plan choose rank (history plan choose rank calls x)) led (sound_after_every_list plan choose rank ok policy ranks calls)
