-- The texts of the made case over n groups of classes. A number is written in decimal after its
-- letter.
use Rattle.std.specs.Prelude.{ℕ, ◌+◌, ◌-◌, List, ◌++◌, codes, decimal}
use Rattle.std.specs.List.{flat_map, range_with_len}

-- what stands there for each of the numbers from 1 to a count
abbrev pub lines_for : (ℕ → List ℕ) → ℕ → List ℕ
lines_for line count = flat_map line (range_with_len 1 count)

-- the class A of a group is disjoint from its class B
abbrev pub disjoint_line : ℕ → List ℕ
disjoint_line i =
    codes "DisjointClasses(:A" ++ (decimal i ++ (codes " :B" ++ (decimal i ++ codes ")\n")))

-- each of a group's A has some p in the next group's A
abbrev pub successor_line : ℕ → List ℕ
successor_line i =
    codes "SubClassOf(:A" ++ (decimal i ++ (codes " ObjectSomeValuesFrom(:p :A"
    ++ (decimal (i + 1) ++ codes "))\n")))

-- the class X of a group is part of its class Y
abbrev pub subclass_line : ℕ → List ℕ
subclass_line i =
    codes "SubClassOf(:X" ++ (decimal i ++ (codes " :Y" ++ (decimal i ++ codes ")\n")))

-- the three mappings of a group
abbrev pub first_row : ℕ → List ℕ
first_row i =
    codes "l:A" ++ (decimal i ++ (codes "\tskos:exactMatch\tr:X" ++ (decimal i ++ codes "\t0.9\n")))

abbrev pub second_row : ℕ → List ℕ
second_row i =
    codes "l:B" ++ (decimal i ++ (codes "\tskos:exactMatch\tr:Y" ++ (decimal i ++ codes "\t0.8\n")))

abbrev pub third_row : ℕ → List ℕ
third_row i =
    codes "l:B" ++ (decimal i ++ (codes "\tskos:broadMatch\tr:Y" ++ (decimal i ++ codes "\t0.7\n")))

abbrev pub rows_of : ℕ → List ℕ
rows_of i = first_row i ++ second_row i ++ third_row i

abbrev pub left_text : ℕ → List ℕ
left_text n =
    codes "Prefix(:=<http://example.org/left#>)\nOntology(<http://example.org/left>\n"
    ++ lines_for disjoint_line n ++ lines_for successor_line (n - 1) ++ codes ")\n"

abbrev pub right_text : ℕ → List ℕ
right_text n =
    codes "Prefix(:=<http://example.org/right#>)\nOntology(<http://example.org/right>\n"
    ++ lines_for subclass_line n ++ codes ")\n"

abbrev pub table_text : ℕ → List ℕ
table_text n =
    codes "#curie_map:\n#  l: http://example.org/left#\n"
    ++ codes "#  r: http://example.org/right#\n"
    ++ codes "subject_id\tpredicate_id\tobject_id\tconfidence\n" ++ lines_for rows_of n
