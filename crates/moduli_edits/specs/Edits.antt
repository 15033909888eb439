-- The lines that set a modulus of the table, and how many of its first ones events are lent: m and k of PROBE.md.
use Rattle.std.specs.Prelude.{Bool, ◌&&◌, cond, Option, leb, eqb, set}
use Rattle.text.specs.declared.Line.{Line}
use Rattle.workbench.specs.Turns.{arg, done, formed_said}
use Rattle.workbench.specs.declared.Said.{Said}
use Rattle.workbench.specs.declared.moduli.Moduli.{Moduli}

-- ---- m,i,v: modulus i becomes v

abbrev pub modulus_form : Line → Bool
modulus_form line = eqb line.count 2 && leb (arg line 0) 23

abbrev pub modulus_said : Line → Option Said
modulus_said line = formed_said (modulus_form line) done

abbrev pub modulus_set : Moduli → Line → Moduli
modulus_set table line = cond (modulus_form line) (record { all = set table.all (arg line 0) (arg line 1); lent = table.lent }) table

-- ---- k,n: the first n are lent

abbrev pub count_form : Line → Bool
count_form line = eqb line.count 1 && leb (arg line 0) 24

abbrev pub count_said : Line → Option Said
count_said line = formed_said (count_form line) done

abbrev pub count_set : Moduli → Line → Moduli
count_set table line = cond (count_form line) (record { all = table.all; lent = arg line 0 }) table
