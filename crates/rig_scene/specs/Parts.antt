-- The parts of a test that is several tests in a row, and the test from its parts.
use Rattle.std.proofs.Common.{Bool, ◌&&◌}
use Rattle.std.specs.Prelude.{IsTrue}
use Rattle.std.proofs.lemmas.Bool.{and_parts, and_from}

pub three_parts : (a b c : Bool) → IsTrue (a && b && c) → IsTrue a × IsTrue b × IsTrue c
three_parts a b c is =
    let last = and_parts (a && b) c is in
    let front = and_parts a b last.0 in
    (front.0, front.1, last.1)

pub four_parts : (a b c d : Bool) → IsTrue (a && b && c && d) → IsTrue a × IsTrue b × IsTrue c × IsTrue d
four_parts a b c d is =
    let last = and_parts (a && b && c) d is in
    let front = three_parts a b c last.0 in
    (front.0, front.1, front.2, last.1)

pub five_parts : (a b c d e : Bool) → IsTrue (a && b && c && d && e) → IsTrue a × IsTrue b × IsTrue c × IsTrue d × IsTrue e
five_parts a b c d e is =
    let last = and_parts (a && b && c && d) e is in
    let front = four_parts a b c d last.0 in
    (front.0, front.1, front.2, front.3, last.1)

pub six_parts : (a b c d e f : Bool) → IsTrue (a && b && c && d && e && f) → IsTrue a × IsTrue b × IsTrue c × IsTrue d × IsTrue e × IsTrue f
six_parts a b c d e f is =
    let last = and_parts (a && b && c && d && e) f is in
    let front = five_parts a b c d e last.0 in
    (front.0, front.1, front.2, front.3, front.4, last.1)

pub three_from : (a b c : Bool) → IsTrue a → IsTrue b → IsTrue c → IsTrue (a && b && c)
three_from a b c p q r = and_from (a && b) c (and_from a b p q) r

pub four_from : (a b c d : Bool) → IsTrue a → IsTrue b → IsTrue c → IsTrue d → IsTrue (a && b && c && d)
four_from a b c d p q r s = and_from (a && b && c) d (three_from a b c p q r) s

pub five_from : (a b c d e : Bool) → IsTrue a → IsTrue b → IsTrue c → IsTrue d → IsTrue e → IsTrue (a && b && c && d && e)
five_from a b c d e p q r s t = and_from (a && b && c && d) e (four_from a b c d p q r s) t

pub six_from : (a b c d e f : Bool) → IsTrue a → IsTrue b → IsTrue c → IsTrue d → IsTrue e → IsTrue f → IsTrue (a && b && c && d && e && f)
six_from a b c d e f p q r s t u = and_from (a && b && c && d && e) f (five_from a b c d e p q r s t) u
