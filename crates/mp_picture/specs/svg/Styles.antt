-- The colours and the font of an SVG.
use Rattle.std.specs.Prelude.{ℕ, List, [], ◌∷◌, ◌++◌, codes}

-- on light ground
abbrev pub light : List ℕ
light =
    codes "svg{background:#fff}"
    ++ (codes "text{font:13px Menlo,Consolas,'DejaVu Sans Mono',monospace;fill:#1f2328}"
    ++ (codes ".axis text{fill:#59636e}"
    ++ (codes ".axis path{fill:none;stroke:#d1d9e0;shape-rendering:crispEdges}"
    ++ (codes ".level{fill:none;stroke:#0969da;stroke-width:2;stroke-linejoin:round}"
    ++ (codes ".band{fill:#0969da;fill-opacity:.4}"
    ++ (codes ".value rect{fill:none;pointer-events:all}"
    ++ (codes ".value text{paint-order:stroke;stroke:#fff;stroke-width:3}"
    ++ (codes ".finding path{fill:#cf222e}"
    ++ (codes ".leads path{fill:none;stroke:#cf222e;stroke-opacity:.5}"
    ++ codes ".word text{fill:#cf222e;paint-order:stroke;stroke:#fff;stroke-width:3}")))))))))

-- on dark ground
abbrev pub dark : List ℕ
dark =
    codes "svg{background:#0d1117}"
    ++ (codes "text{fill:#f0f6fc}"
    ++ (codes ".axis text{fill:#9198a1}"
    ++ (codes ".axis path{stroke:#2f3742}"
    ++ (codes ".level{stroke:#4493f8}"
    ++ (codes ".band{fill:#4493f8}"
    ++ (codes ".value text{stroke:#0d1117}"
    ++ (codes ".finding path{fill:#f85149}"
    ++ (codes ".leads path{stroke:#f85149}"
    ++ codes ".word text{fill:#f85149;stroke:#0d1117}"))))))))

unfoldable pub style : List ℕ
style = codes "<style>" ++ (light ++ (codes "@media (prefers-color-scheme:dark){" ++ (dark ++ (codes "}</style>" ++ (10 ∷ [])))))
