-- The lines of a graph, by what they are of.
use Rattle.std.specs.Prelude.{ℕ, List, [], ◌∷◌, ◌++◌, length, codes}
use Rattle.std.specs.List.{flat_map, range_with_len}
use Rattle.mp_netlist.specs.Circuit.{Circuit, module_at, bundle_at}
use Rattle.mp_picture.specs.declared.graph.GraphSection.{GraphSection}
use Rattle.mp_picture.specs.declared.graph.GraphSection.TheVariants.{Modules, Wires, Reads, Bundles}
use Rattle.mp_picture.specs.Graphs.{module_node, wire_lines, wire_edges, bundle_lines}

abbrev pub slot_count : Circuit → GraphSection → ℕ
slot_count n Modules = length n.modules
slot_count n Wires = length n.wires
slot_count n Reads = length n.wires
slot_count n Bundles = length n.bundles

-- the lines of a section for one number
abbrev pub section_line : Circuit → GraphSection → ℕ → List ℕ
section_line n Modules k = module_node (module_at n k)
section_line n Wires k = wire_lines n k
section_line n Reads k = wire_edges n k
section_line n Bundles k = bundle_lines n (bundle_at n k)

-- by number
abbrev pub section_text : Circuit → GraphSection → List ℕ
section_text n section = flat_map (section_line n section) (range_with_len 0 (slot_count n section))

-- what a graph begins with: it goes from left to right
unfoldable pub head : List ℕ
head =
    codes "digraph netlist {" ++ (10 ∷ (codes "  rankdir=LR;"
    ++ (10 ∷ (codes "  node [fontname=Helvetica fontsize=12 margin=0.05 height=0.3];"
    ++ (10 ∷ (codes "  edge [fontname=Helvetica fontsize=10 arrowsize=0.7];" ++ (10 ∷ [])))))))

-- the modules, the wires that have a node, the reads by wire, and the bundles
unfoldable pub graph : Circuit → List ℕ
graph n =
    head
    ++ (section_text n Modules
    ++ (section_text n Wires
    ++ (section_text n Reads
    ++ (section_text n Bundles
    ++ (codes "}" ++ (10 ∷ []))))))
