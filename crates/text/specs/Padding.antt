-- The bytes of a text give its fields back.
use Rattle.std.proofs.Common.{◌≡◌, ℕ, ◌-◌, ◌≤◌, List, ◌++◌, length, take, drop, sym, ap, ◌∙◌, ap₂, arith}
use Rattle.std.proofs.Math.ListN.{replicate}
use Rattle.std.proofs.lemmas.List.{length-take-le, take-append-drop}
use Rattle.text.specs.declared.text.Text.TheInside.{Inside}
use Rattle.text.specs.Texts.{padded, Padded}

abbrev fields : List ℕ → ℕ → Inside
fields bytes len = record { bytes = bytes; len = len }

pub fields_back : (t : Inside) → Padded t.len t.bytes → fields (padded (take t.len t.bytes)) (length (take t.len t.bytes)) ≡ t
fields_back t p =
    let size : t.len ≤ length t.bytes = omega arith in
    let short : length (take t.len t.bytes) ≡ t.len = length-take-le t.len t.bytes size in
    let rest : replicate (512 - length (take t.len t.bytes)) 0 ≡ drop t.len t.bytes = ap (λ n. replicate (512 - n) 0) short ∙ sym p.zeros in
    ap₂ fields (ap (λ zs. take t.len t.bytes ++ zs) rest ∙ take-append-drop t.len t.bytes) short
