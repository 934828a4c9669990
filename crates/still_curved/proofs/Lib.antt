mod SeenLaws
