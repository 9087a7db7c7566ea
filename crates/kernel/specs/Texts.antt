-- How a call is written out.
use Rattle.std.specs.Prelude.{ℕ, List, ◌++◌, codes, decimal}
use Rattle.kernel.specs.declared.call.Call.{Call}
use Rattle.kernel.specs.declared.call.Call.TheVariants.{Raise, Enter, Pend, Go, Signal, Block, Post, Leave, Mask, Unmask}

-- its name, and then the number of its line or event, or the bits of its set
abbrev pub call_text : Call → List ℕ
call_text (Raise i) = codes "raise " ++ decimal i.0
call_text (Enter i) = codes "enter " ++ decimal i.0
call_text Pend = codes "pend"
call_text Go = codes "go"
call_text (Signal set) = codes "signal " ++ decimal set.bits
call_text Block = codes "block"
call_text (Post e) = codes "post " ++ decimal e.0
call_text Leave = codes "leave"
call_text (Mask i) = codes "mask " ++ decimal i.0
call_text (Unmask i) = codes "unmask " ++ decimal i.0
