-- The FACS address in a FADT's body; the body is the FADT's bytes from 36 on (ACPI 6.5, 5.2.9).
use Rattle.std.specs.Prelude.{ℕ, ◌+◌, List, ◌++◌, length, take, drop, nat_le, if◌then◌else◌}
use Rattle.acpi_base.specs.Number.{number_bytes}

-- bytes in which others replace those from an offset on
unfoldable pub put_over : List ℕ → ℕ → List ℕ → List ℕ
put_over bytes offset new = take offset bytes ++ (new ++ drop (offset + length new) bytes)

-- the body with this FACS address: in X_FIRMWARE_CTRL, at 132 of the table and so at 96 of the body, if the body has
-- all 8 bytes, otherwise in FIRMWARE_CTRL, at 36 and so at 0; if it has both fields the other one is 0
unfoldable pub with_facs : List ℕ → ℕ → List ℕ
with_facs body facs =
    if nat_le 104 (length body)
    then put_over (put_over body 0 (number_bytes 4 0)) 96 (number_bytes 8 facs)
    else put_over body 0 (number_bytes 4 facs)
